-- A function that meets its contract returns: of any arguments by value there is a result that the contract allows. Assumes nothing.
-- The toolchain's `adequate` gives a run of the machine that ends; here it is run from the memory at the start, in the logic's own model.
use mathlib.Core.Logic.{∥∥₁_prop, ∥∥₁_elim, ∥∥₁_map}
use mathlib.Core.List.{[], ◌∷◌}
use mir.Syntax.{w8}
use mir.Val.{Val}
use base.Fraction.{full_share}
use base.Logic.{SProp, ent, sep, ex, emp, via, mono∗, mono_l, fst∗, snd∗, emp∗, ex_e}
use prog.AdequacyRun.{start_mem}
use prog.Routine.{Routine, any_callee}
use prog.Wp.{run}
use ghost.Model.{𝓤, H}
use types.Logic.{sem}
use contract.Monad.{fact, conj, sep→conj}
use contract.Running.{tables}
use contract.Closed.{model⁺, real⁺, real⁺_strict}
use contract.BorrowModel.{logic₀}
use contract.Adequate.{sat_weaken, sat_⇛, sat_ex∗, sat_fact, start_Satisfies}
use denote.RattleType.{RattleType}
use denote.Laws.{Is, Ises, Are, Makess, owns_make, shows, both_say}
use denote.Signature.{type_at, types_at}
use denote.Triple.Entry.{Res, alive}
use denote.Triple.Spec.{triple_of, Meets, Back}
use denote.Triple.Clauses.{Ended, Clauses, Lasts, AtExit, at_exit, lasts, ensured, closing}
use denote.Triple.Adequate.{adequate}

-- x is a value of the type: its arrays are as long, and its numbers as small, as the type says
abbrev pub OfType : (R : RattleType) → R.Denot → Type 0
OfType R x = (v : Val) × Is R x (v ∷ [])

-- what there is at the start
abbrev Start : SProp 𝓤
Start = sep 𝓤 (run 𝓤 H full_share w8 0 0 []) (run 𝓤 H full_share w8 1 0 [])

module _ (T : Ended) (ρ : Routine) (c : Clauses 𝓤 T) (met : Meets logic₀ T.signature (real⁺.run ρ) (closing logic₀ T c))
    (y : (triple_of logic₀ T.signature (closing logic₀ T c)).Ghost) where
  abbrev Result : Type 0
  Result = Res T.signature y.0.0

  abbrev kind : RattleType
  kind = type_at T.signature.result y.0.0

  abbrev Back' : Val → Result → SProp 𝓤
  Back' v r = Back logic₀ T.signature y.0 v r

  abbrev Ensured : Result → SProp 𝓤
  Ensured r = ensured logic₀ T c y.0.0 y.0.3 y.1 r

  abbrev Left : Val → Result → SProp 𝓤
  Left v r = sep 𝓤 (Back' v r) (Ensured r)

  -- nothing is lent, and nothing required; the arguments are plain data, and values of their types; the contract says P of the result
  module _ (free : ent 𝓤 (emp 𝓤) (alive logic₀ T.signature y.0.0 y.0.1)) (asks : ent 𝓤 (emp 𝓤) ((c y.0.0 y.0.3).requires y.1))
      (plain : Makess logic₀ (types_at T.signature.params y.0.0) (Ises (types_at T.signature.params y.0.0)))
      (are : Are (types_at T.signature.params y.0.0) (Ises (types_at T.signature.params y.0.0)) y.0.3 y.0.4) (P : Result → Type 0)
      (says : (r : Result) (e : AtExit T y.0.0) → ent 𝓤 ((c y.0.0 y.0.3).ensures y.1 r e) (fact 𝓤 (P r))) where
    had : ent 𝓤 (emp 𝓤) ((triple_of logic₀ T.signature (closing logic₀ T c)).pre y)
    had =
        via 𝓤 (sep 𝓤 (emp 𝓤) (emp 𝓤)) (emp∗ 𝓤 (emp 𝓤))
        (mono∗ 𝓤 (via 𝓤 (sep 𝓤 (emp 𝓤) (emp 𝓤)) (emp∗ 𝓤 (emp 𝓤)) (mono∗ 𝓤 free
        (owns_make logic₀ (types_at T.signature.params y.0.0) (Ises (types_at T.signature.params y.0.0)) plain y.0.3 y.0.4 are))) asks)

    promised : (r : Result) → ent 𝓤 (Ensured r) (fact 𝓤 (P r))
    promised r =
        let last : Lasts T y.0.0 y.0.3 → SProp 𝓤 = λ ws. sem logic₀ (lasts T y.0.0 y.0.3 ws) in
        let then : Lasts T y.0.0 y.0.3 → SProp 𝓤 = λ ws. (c y.0.0 y.0.3).ensures y.1 r (at_exit T y.0.0 y.0.3 ws) in
        ex_e 𝓤 (λ ws. sep 𝓤 (last ws) (then ws)) (λ ws. via 𝓤 (then ws) (snd∗ 𝓤 (last ws) (then ws)) (says r (at_exit T y.0.0 y.0.3 ws)))

    told : (r : Result) (v : Val) → ent 𝓤 (Left v r) (fact 𝓤 (Is kind r (v ∷ []) × P r))
    told r v =
        let own : SProp 𝓤 = sem logic₀ (kind.own_val r (v ∷ [])) in
        via 𝓤 (conj 𝓤 (Back' v r) (Ensured r)) (sep→conj 𝓤 (Back' v r) (Ensured r))
        (both_say logic₀ (Is kind r (v ∷ [])) (P r)
        (via 𝓤 own (snd∗ 𝓤 (alive logic₀ T.signature y.0.0 y.0.1) own) (shows logic₀ kind r (v ∷ []))) (promised r))

    pub returned : ∥ ((r : Result) × OfType kind r × P r) ∥₁
    returned =
        ∥∥₁_elim (adequate 𝓤 H model⁺ (tables 𝓤 H model⁺ real⁺ (λ _. ρ)) real⁺_strict any_callee (triple_of logic₀ T.signature (closing logic₀ T c)) met y (start_mem [] []) Start
        (sat_weaken 𝓤 H model⁺ (start_mem [] []) (via 𝓤 (sep 𝓤 (emp 𝓤) Start) (emp∗ 𝓤 Start) (mono_l 𝓤 Start had)) (start_Satisfies 𝓤 H model⁺ [] [] tt tt))) ∥∥₁_prop
        (λ (n, v, σ, e, s). ∥∥₁_elim (sat_ex∗ 𝓤 H model⁺ σ (Left v) Start (sat_⇛ 𝓤 H model⁺ σ (ex 𝓤 (Left v)) Start s)) ∥∥₁_prop
        (λ (r, t). ∥∥₁_map (sat_fact 𝓤 H model⁺ σ (sep 𝓤 (Left v r) Start) (Is kind r (v ∷ []) × P r)
        (via 𝓤 (sep 𝓤 (Left v r) Start) (snd∗ 𝓤 (model⁺.mem σ) (sep 𝓤 (Left v r) Start)) (via 𝓤 (Left v r) (fst∗ 𝓤 (Left v r) Start) (told r v))) t)
        (λ h. (r, (v, h.0), h.1))))
