-- Two results that a contract allows are equal: answers, and every byte that was lent. Assumes nothing.
use Rattle.std.proofs.Common.{◌≡◌, ℕ, Bool, true, false, List, Result, length, sym, ap, ap₂, subst, ◌∙◌}
use Rattle.laws.specs.Words.{digit, written}
use Rattle.laws.proofs.Bools.{decides_one}
use Rattle.laws.proofs.Buffers.{puts_one}
use Rattle.rules.specs.Numbers.{Verdict, Passed, Failed, first_of}
use Rattle.rules.specs.Calls.{Call, Answer, Accepted, Refused}
use Rattle.rules.specs.Records.{runner_tests, tasks_read}
use Rattle.stream.specs.Load.{table_in}
use Rattle.kernel.specs.declared.Called.{Called}
use Rattle.kernel.specs.declared.start.Started.{Started}
use Rattle.kernel.specs.declared.Refusal.{Refusal}
use Rattle.kernel.specs.Block.{Whole}
use Rattle.kernel.specs.Answers.{answer_in}
use Rattle.kernel.specs.Asks.{listed_in}
use Rattle.kernel.proofs.Fifteen.{both_15}
use Rattle.kernel.proofs.Results.{gives_one, listing_one}
use Rattle.kernel.proofs.Starting.{start_one}
use Rattle.image.specs.Bytes.{size, bytes_of, block_in}
use Rattle.export.specs.Door.{is_block, AnswersBy, Answers, TellsBy, Tells, StartedAs, StartBy, TellsStartBy, TellsStart, number_by, TellsListingBy, TellsListing, TellsPlanBy, TellsPlan, TellsWhole}

-- ---- a call

module _ (bytes answer : List ℕ) (r : ℕ) (after answered : List ℕ) (x : ℕ) (last told : List ℕ) where
  abbrev Same : Type 0
  Same = (x ≡ r) × (last ≡ after) × (told ≡ answered)

  by_answer : (called : Called) (a : Answer) → AnswersBy called bytes answer r after answered a → AnswersBy called bytes answer x last told a → Same
  by_answer called (Accepted w m g) p q = (q.0 ∙ sym p.0, q.1 ∙ sym p.1, q.2 ∙ sym p.2)
  by_answer called (Refused k) p q = (q.0 ∙ sym p.0, q.1 ∙ sym p.1, q.2 ∙ sym p.2)

  pub answers_one : (called other : Called) → other ≡ called → Answers called bytes answer r after answered → Answers other bytes answer x last told → Same
  answers_one called other e p q = by_answer called (answer_in called.answer) p (subst (λ (y : Called). Answers y bytes answer x last told) e q)

  pub tells_one : (c : Call) → Tells c bytes answer r after answered → Tells c bytes answer x last told → Same
  tells_one c = go (is_block bytes)
    where
      go : (w : Bool) → TellsBy c bytes answer r after answered w → TellsBy c bytes answer x last told w → Same
      go true p q = answers_one p.called q.called (gives_one (block_in bytes) c p.called q.called p.sizes q.sizes p.gives q.gives) p.answers q.answers
      go false p q = (q.0 ∙ sym p.0, q.1 ∙ sym p.1, q.2 ∙ sym p.2)

-- ---- start

module _ (s : List ℕ) (reading : ℕ) (bytes : List ℕ) where
  started_one : (after last : List ℕ) → StartedAs s reading bytes after → StartedAs s reading bytes last → last ≡ after
  started_one after last p q =
      q.stored
      ∙ ap (λ (y : Started). written (bytes_of y.block) bytes) (start_one (table_in (tasks_read s)) reading q.started p.started q.sizes.lists p.sizes.lists q.starts p.starts)
      ∙ sym p.stored

  module _ (r : ℕ) (after : List ℕ) (x : ℕ) (last : List ℕ) where
    begun_one : (v : Verdict) → StartBy s reading bytes r after v → StartBy s reading bytes x last v → (x ≡ r) × (last ≡ after)
    begun_one Passed p q = (q.0 ∙ sym p.0, started_one after last p.1 q.1)
    begun_one (Failed k) p q = (q.0 ∙ sym p.0, q.1 ∙ sym p.1)

    pub begins_one : TellsStart s reading bytes r after → TellsStart s reading bytes x last → (x ≡ r) × (last ≡ after)
    begins_one = go (is_block bytes)
      where
        go : (w : Bool) → TellsStartBy s reading bytes r after w → TellsStartBy s reading bytes x last w → (x ≡ r) × (last ≡ after)
        go true p q = begun_one (first_of (runner_tests s)) p q
        go false p q = (q.0 ∙ sym p.0, q.1 ∙ sym p.1)

-- ---- the listing, a plan, and whether a block is whole

pub lists_one : (bytes before : List ℕ) (r : ℕ) (after : List ℕ) (x : ℕ) (last : List ℕ) → TellsListing bytes before r after → TellsListing bytes before x last → (x ≡ r) × (last ≡ after)
lists_one bytes before r after x last = go (is_block bytes)
  where
    go : (w : Bool) → TellsListingBy bytes before r after w → TellsListingBy bytes before x last w → (x ≡ r) × (last ≡ after)
    go true p q =
        let same = listing_one (block_in bytes) before p.0 q.0 after last p.1 q.1 in
        (q.2 ∙ ap₂ (λ (l : Result ℕ Refusal) (buffer : List ℕ). number_by (listed_in l buffer).waiting (listed_in l buffer).verdict) same.0 same.1 ∙ sym p.2, same.1)
    go false p q = (q.0 ∙ sym p.0, q.1 ∙ sym p.1)

pub plans_one : (bytes : List ℕ) (k : ℕ) (before : List ℕ) (r : ℕ) (after : List ℕ) (x : ℕ) (last : List ℕ) → TellsPlan bytes k before r after → TellsPlan bytes k before x last → (x ≡ r) × (last ≡ after)
plans_one bytes k before r after x last = go (is_block bytes)
  where
    go : (w : Bool) → TellsPlanBy bytes k before r after w → TellsPlanBy bytes k before x last w → (x ≡ r) × (last ≡ after)
    go true p q = both_15 ((x ≡ r) × (last ≡ after)) (λ w f g. (g.0 ∙ sym f.0, (puts_one f.1 g.1).0)) p q
    go false p q = (q.0 ∙ sym p.0, q.1 ∙ sym p.1)

pub judges_one : (bytes : List ℕ) (r x : ℕ) → TellsWhole bytes r → TellsWhole bytes x → x ≡ r
judges_one bytes r x p q = q.2 ∙ ap digit (decides_one ((length bytes ≡ size) × Whole (block_in bytes)) q.0 p.0 q.1 p.1) ∙ sym p.2
