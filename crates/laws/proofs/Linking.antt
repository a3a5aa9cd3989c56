-- What it is for the code of a function to be in each world of tables that has those of some crates: said in the proofs/Linked of the crates
-- that a call runs through. Assumes nothing.
use mathlib.Core.Bool.{true}
use prog.Wired.{Code}
use prog.Linked.{World, in_world}
use prog.LinkedThreads.{HasT}

-- .. of which `In` tells
abbrev pub Found : (World → Type 0) → Code → Type 0
Found In c = (W : World) → In W → HasT (in_world W) true c
