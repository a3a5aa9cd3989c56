-- What a door gives back, from what the functions behind it did. Assumes nothing.
use Rattle.std.proofs.Common.{◌≡◌, ℕ, ◌+◌, ◌*◌, List, [], length, Result, Ok, Err, refl, sym, ap, subst, ◌∙◌}
use borrow.Author.Tests.{eq-eqb}
use Rattle.laws.specs.Words.{written}
use Rattle.rules.specs.Numbers.{number_of, value_of, given, Passed, Failed, first_of, number_in}
use Rattle.rules.specs.Numbers as Numbers
use Rattle.rules.specs.Table.{verdict_of}
use Rattle.rules.specs.Records.{stream_of, runner_tests, tasks_read}
use Rattle.rules.proofs.Runner.{runner_refused, runner_table}
use Rattle.table.specs.declared.Table.{Table}
use Rattle.table.specs.Stored.{table_of, verdict_in}
use Rattle.stream.specs.Load.{table_in}
use Rattle.stream.proofs.Loading.{table_verdict}
use Rattle.kernel.specs.declared.Block.{Block}
use Rattle.kernel.specs.declared.Called.{Called}
use Rattle.kernel.specs.declared.Refusal.{Refusal}
use Rattle.kernel.specs.declared.start.Started.{Started}
use Rattle.kernel.specs.Block.{Sizes}
use Rattle.kernel.specs.Answers.{refusal_in}
use Rattle.kernel.specs.Start.{Starts}
use Rattle.kernel.specs.Asks.{listed_in, GivesListing}
use Rattle.image.specs.Bytes.{size, bytes_of, block_in}
use Rattle.export.specs.Door.{Answers, TellsStart, number_by, TellsListing}

-- ---- a call that was refused

pub answers_refused : (called : Called) (bytes answer : List ℕ) {q : Refusal} → called.answer ≡ Err q → {r : ℕ} → r ≡ number_of (refusal_in q) → Answers called bytes answer r bytes answer
answers_refused called bytes answer e n = rw e (n, refl, refl)

-- ---- start

module _ (s : List ℕ) (reading : ℕ) (bytes : List ℕ) (h : length bytes ≡ size) where
  refuses : (q : Numbers.Refusal) → first_of (runner_tests s) ≡ Failed q → {r : ℕ} → r ≡ number_of q + 256 * given (value_of q) → TellsStart s reading bytes r bytes
  refuses q f n = rw (eq-eqb (length bytes) size h, f) (n, refl)

  -- a stream that is not readable
  pub begins_unreadable : (q : Numbers.Refusal) → Failed q ≡ stream_of s → {r : ℕ} → r ≡ number_of q + 256 * given (value_of q) → TellsStart s reading bytes r bytes
  begins_unreadable q f = refuses q (runner_refused s q (sym f))

  -- one that is, from what start said of its table
  module _ (readable : Passed ≡ stream_of s) (stored : Table) (is : stored ≡ table_in (tasks_read s)) (started : Started) (st : Starts stored reading started) where
    found : first_of (runner_tests s) ≡ verdict_in started.verdict
    found = runner_table s (sym readable) ∙ sym (st.verdict ∙ ap (λ (t : Table). verdict_of (table_of t)) is ∙ table_verdict (tasks_read s))

    pub begins_refused : (q : Numbers.Refusal) → verdict_in started.verdict ≡ Failed q → {r : ℕ} → r ≡ number_of q + 256 * given (value_of q) → TellsStart s reading bytes r bytes
    begins_refused q e = refuses q (found ∙ e)

    pub begins_sound : verdict_in started.verdict ≡ Passed → Sizes started.block → {after : List ℕ} → after ≡ written (bytes_of started.block) bytes → TellsStart s reading bytes 0 after
    begins_sound e sizes w =
        rw (eq-eqb (length bytes) size h, found ∙ e) (refl, record { started = started; sizes = sizes; starts = subst (λ (t : Table). Starts t reading started) is st; stored = w })

-- ---- a listing that was refused

number_refused : (l : Result ℕ Refusal) → ((n : ℕ) → l ≡ Ok n → ⊥) → (after : List ℕ)
    → 256 * number_in (listed_in l []).verdict ≡ number_by (listed_in l after).waiting (listed_in l after).verdict
number_refused (Ok n) h after = absurd (h n refl)
number_refused (Err r) h after = refl

module _ (bytes before : List ℕ) (h : length bytes ≡ size) {b : Block} (e : b ≡ block_in bytes) (l : Result ℕ Refusal) (after : List ℕ) (g : GivesListing b before l after) where
  pub lists_refused : ((n : ℕ) → l ≡ Ok n → ⊥) → {r : ℕ} → r ≡ number_in (listed_in l []).verdict → TellsListing bytes before (256 * r) after
  lists_refused o n =
      rw (eq-eqb (length bytes) size h) (l, subst (λ (b : Block). GivesListing b before l after) e g, ap (λ (k : ℕ). 256 * k) n ∙ number_refused l o after)
