-- An environment of calls that is built, and has the code of start and of the calls (`Wired`): it ties the tables of all crates whose functions
-- they reach (each crate's proofs/Linked). Assumes nothing.
use mathlib.Core.Path.{refl}
use mathlib.Core.Bool.{true}
use mathlib.Core.List.{◌∷◌}
use lib.Chars.{codes}
use prog.Routine.{Env}
use prog.Wired.{Code, Wired}
use prog.Linked.{World, in_world}
use prog.LinkedThreads.{HasT, tie_t, tie_t-follows, tie_t-threads, has-wired_t}
use Rattle.table.proofs.Linked as table
use Rattle.levels.proofs.Linked as levels
use Rattle.clock.proofs.Linked as clock
use Rattle.lists.proofs.Linked as lists
use Rattle.jobs.proofs.Linked as jobs
use Rattle.ready.proofs.Linked as ready
use Rattle.whole.proofs.Linked as whole
use Rattle.kernel.proofs.TheLink as link
use Rattle.kernel.proofs.Block.release.Symbol as release'
use Rattle.kernel.proofs.Block.done.Symbol as done'
use Rattle.kernel.proofs.Block.clock.Symbol as clock'
use Rattle.kernel.proofs.start.start.Symbol as start'

-- each crate's functions, under its name
abbrev W : World
W =
    (codes "kernel", link.table) ∷ (codes "table", table.functions) ∷ (codes "levels", levels.functions) ∷ (codes "clock", clock.functions)
    ∷ (codes "lists", lists.functions) ∷ (codes "jobs", jobs.functions) ∷ (codes "ready", ready.functions) ∷ whole.tables

-- the crates below are in it, and so the code of all that the kernel calls
in_jobs : jobs.In W
in_jobs = (refl, refl)

in_ready : ready.In W
in_ready = (refl, in_jobs, refl)

in_whole : whole.In W
in_whole = (refl, refl, (refl, in_jobs), refl, refl)

below : link.Below W
below =
    (clock.advance W refl, (jobs.in_table W in_jobs, (jobs.time_left W in_jobs, (levels.plan_of W refl, (levels.rising W refl, (lists.empty W refl, (lists.list_all W refl, (lists.waiting W refl, (ready.enter W in_ready, (ready.leave W in_ready, (ready.relevel W in_ready, (table.table_test W refl, (whole.is_whole W in_whole, tt)))))))))))))

-- a call runs the function that the look-up finds
pub calls : Env
calls = tie_t (in_world W)

wired : (c : Code) → HasT (in_world W) true c → Wired calls c
unfolding calls
wired = has-wired_t (in_world W) (tie_t (in_world W)) (tie_t-follows (in_world W)) (tie_t-threads (in_world W))

pub release_wired : Wired calls release'.code
release_wired = wired release'.code (link.linked-kernel::Block::release W refl below)

pub done_wired : Wired calls done'.code
done_wired = wired done'.code (link.linked-kernel::Block::done W refl below)

pub clock_wired : Wired calls clock'.code
clock_wired = wired clock'.code (link.linked-kernel::Block::clock W refl below)

pub start_wired : Wired calls start'.code
start_wired = wired start'.code (link.linked-kernel::start::start W refl below)
