-- "Every task table, clock reading and event is answered": whatever they are given, start and the calls have a result that their contracts
-- allow, and any calls can be made one after the other. `∥ A ∥₁`: there is an A (Results and Starting say that there are no two results).
-- Each result is had by a run of the code, in the environment of calls that Linked builds. Assumes nothing.
use mathlib.Core.Path.{◌≡◌, refl, subst}
use mathlib.Core.Logic.{∥∥₁_prop, ∥∥₁_elim, ∥∥₁_map}
use mathlib.Core.List.{List, [], ◌∷◌}
use Prim.Native.Nat.{ℕ, ◌<◌, ◌^◌}
use mir.Syntax.{w32}
use mir.Val.{Val, vint, vstruct, of_list}
use base.Logic.{emp, id⊢}
use prog.Routine.{Routine}
use ghost.Model.{𝓤, H}
use contract.Monad.{fact}
use contract.BorrowModel.{logic₀}
use contract.Running.{Running, within}
use contract.Closed.{model⁺, real⁺}
use denote.RattleType.{flat}
use denote.Laws.{Is, Makes}
use denote.Plain.{uint_Makes}
use denote.Builtin.{u32}
use denote.Struct.Declared.{Declared, fields, row}
use denote.Struct.Laws.{makes, owes, vals}
use denote.Triple.Spec.{Meets}
use denote.Triple.Clauses.{Clauses, closing}
use Rattle.laws.specs.Words.{All}
use Rattle.rules.specs.Numbers.{Passed}
use Rattle.rules.specs.Table.{verdict_of}
use Rattle.rules.specs.Calls.{Call, Release, Done, Clock}
use Rattle.rules.specs.Histories.{Event, Leads}
use Rattle.table.specs.declared.TaskNo.{TaskNo}
use Rattle.table.specs.declared.Table.{Table}
use Rattle.table.specs.Stored.{table_of}
use Rattle.table.specs.contracts.TaskNo as TaskNo
use Rattle.table.proofs.TaskNo.TheLaws as TaskNo'
use Rattle.table.specs.contracts.Table as Table
use Rattle.table.proofs.Table.TheLaws as Table'
use Rattle.kernel.specs.declared.Block.{Block}
use Rattle.kernel.specs.declared.Called.{Called}
use Rattle.kernel.specs.declared.start.Started.{Started}
use Rattle.kernel.specs.Start.{Starts}
use Rattle.kernel.specs.Calls.{Gives}
use Rattle.kernel.specs.Demands.{said, History}
use Rattle.kernel.specs.contracts.Block as Block
use Rattle.kernel.proofs.Block.TheLaws as Block'
use Rattle.kernel.specs.contracts.Called as Called
use Rattle.kernel.specs.contracts.start.Started as Started
use Rattle.kernel.specs.contracts.Block.release as release
use Rattle.kernel.proofs.Block.release.Symbol as release-code
use Rattle.kernel.proofs.Block.release.Met as release-met
use Rattle.kernel.proofs.Block.done.Symbol as done-code
use Rattle.kernel.proofs.Block.done.Met as done-met
use Rattle.kernel.specs.contracts.Block.clock as clock
use Rattle.kernel.proofs.Block.clock.Symbol as clock-code
use Rattle.kernel.proofs.Block.clock.Met as clock-met
use Rattle.kernel.specs.contracts.start.start as start
use Rattle.kernel.proofs.start.start.Symbol as start-code
use Rattle.kernel.proofs.start.start.Met as start-met
use Rattle.kernel.proofs.Returned.{OfType, returned}
use Rattle.kernel.proofs.Linked as linked

-- ---- the arguments are plain data

block_made : Makes logic₀ Block.the_row (Is Block.the_row)
block_made = makes Block.the_type Block'.the_plain logic₀

reading_made : Makes logic₀ u32 (Is u32)
reading_made = uint_Makes logic₀ w32

task_made : Makes logic₀ TaskNo.the_row (Is TaskNo.the_row)
task_made = makes TaskNo.the_type TaskNo'.the_plain logic₀

-- a reading has 32 bits, and a task number is a byte
abbrev pub CallFits : Call → Type 0
CallFits (Release n k) = (n < 2 ^ 32) × (k < 2 ^ 8)
CallFits (Done n k) = (n < 2 ^ 32) × (k < 2 ^ 8)
CallFits (Clock n) = n < 2 ^ 32

-- a struct has one machine value
one_value : (T : Declared) (d : T.D) (vs : List Val) → Is (row T) d vs → OfType (row T) d
one_value T d vs p = (vstruct (of_list (flat (fields T) p.0)), subst (Is (row T) d) p.1.0 p)

-- the contract that says P of a block, a reading, a task and the result
abbrev saying : (Block → ℕ → ℕ → Called → Type 0) → Clauses 𝓤 release.ended
saying P κs a = record { ghost = Unit {0}; requires = λ g. emp 𝓤; ensures = λ g r e. fact 𝓤 (P a.0 a.1.0 a.1.1.0.0 r) }

task_answered : (P : Block → ℕ → ℕ → Called → Type 0) (ρ : Routine) → Meets logic₀ release.signature (real⁺.run ρ) (closing logic₀ release.ended (saying P))
    → (b : Block) → OfType Block.the_row b → (n k : ℕ) → (n < 2 ^ 32) × (k < 2 ^ 8) → ∥ ((r : Called) × OfType Called.the_row r × P b n k r) ∥₁
task_answered P ρ met b (u, p) n k (l, m) =
    let task : TaskNo = record { 0 = k } in
    returned release.ended ρ (saying P) met
    ((tt, tt, tt, (b, (n, (task, tt))), (u ∷ [], (vint w32 n ∷ [], (vals TaskNo.the_type TaskNo'.the_laws task, tt)))), tt) (id⊢ 𝓤 (emp 𝓤)) (id⊢ 𝓤 (emp 𝓤))
    (block_made, (reading_made, (task_made, tt))) (p, ((refl, l), (owes TaskNo.the_type TaskNo'.the_laws task ((refl, m), tt), tt))) (P b n k)
    (λ r e. id⊢ 𝓤 (fact 𝓤 (P b n k r)))

abbrev running : Running 𝓤 H model⁺
running = within 𝓤 H model⁺ real⁺ linked.calls

-- ---- the calls

pub call_answered : (b : Block) → OfType Block.the_row b → (c : Call) → CallFits c → ∥ ((r : Called) × OfType Called.the_row r × Gives b c r) ∥₁
call_answered b o (Release n k) f =
    task_answered (λ (x : Block) (i j : ℕ). Gives x (Release i j)) (linked.calls release-code.name) (release-met.met 𝓤 logic₀ model⁺ running linked.release_wired) b o n k f
call_answered b o (Done n k) f =
    task_answered (λ (x : Block) (i j : ℕ). Gives x (Done i j)) (linked.calls done-code.name) (done-met.met 𝓤 logic₀ model⁺ running linked.done_wired) b o n k f
call_answered b (u, p) (Clock n) l =
    returned clock.ended (linked.calls clock-code.name) (clock.clauses logic₀ model⁺.mem real⁺.returns) (clock-met.met 𝓤 logic₀ model⁺ running linked.clock_wired)
    ((tt, tt, tt, (b, (n, tt)), (u ∷ [], (vint w32 n ∷ [], tt))), tt) (id⊢ 𝓤 (emp 𝓤)) (id⊢ 𝓤 (emp 𝓤))
    (block_made, (reading_made, tt)) (p, ((refl, l), tt)) (Gives b (Clock n)) (λ r e. id⊢ 𝓤 (fact 𝓤 (Gives b (Clock n) r)))

-- ---- start

pub start_answered : (table : Table) → OfType Table.the_row table → (n : ℕ) → n < 2 ^ 32 → ∥ ((r : Started) × OfType Started.the_row r × Starts table n r) ∥₁
start_answered table (u, p) n l =
    returned start.ended (linked.calls start-code.name) (start.clauses logic₀ model⁺.mem real⁺.returns) (start-met.met 𝓤 logic₀ model⁺ running linked.start_wired)
    ((tt, tt, tt, (table, (n, tt)), (u ∷ [], (vint w32 n ∷ [], tt))), tt) (id⊢ 𝓤 (emp 𝓤)) (id⊢ 𝓤 (emp 𝓤))
    (makes Table.the_type Table'.the_plain logic₀, (reading_made, tt)) (p, ((refl, l), tt)) (Starts table n) (λ r e. id⊢ 𝓤 (fact 𝓤 (Starts table n r)))

-- ---- any calls, one after the other

leads_answered : (b : Block) → OfType Block.the_row b → (cs : List Call) → All CallFits cs
    → ∥ ((es : List Event) × (last : Block) × Leads Gives said (λ (r : Called). r.block) b cs es last) ∥₁
leads_answered b o [] f = ∣ ([], b, (refl, refl)) ∣₁
leads_answered b o (c ∷ cs) (f, fs) =
    ∥∥₁_elim (call_answered b o c f) ∥∥₁_prop
    (λ (r, (v, p), g). ∥∥₁_map (leads_answered r.block (one_value Block.the_type r.block p.0.1.0 p.1.1.1.0) cs fs)
    (λ (es, last, l). (record { call = c; answer = said r } ∷ es, last, (r, g, es, refl, l))))

-- every sound table, every reading of its start and every list of calls has a history
pub history_answered : (table : Table) → OfType Table.the_row table → verdict_of (table_of table) ≡ Passed → (n : ℕ) → n < 2 ^ 32 → (cs : List Call) → All CallFits cs
    → ∥ ((es : List Event) × (b : Block) × History table n cs es b) ∥₁
history_answered table (u, p) sound n l cs f =
    ∥∥₁_elim (start_answered table (u, p) n l) ∥∥₁_prop
    (λ (r, (v, q), s). ∥∥₁_map (leads_answered r.block (one_value Block.the_type r.block q.0.1.0 q.1.1.1.0) cs f)
    (λ (es, b, h). (es, b, record { places = p.1.1.1.0.1.0.1; started = r; starts = s; sound = sound; leads = h })))
