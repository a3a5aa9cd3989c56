-- The points of a plan as text, one behind another. Assumes nothing.
use mathlib.Core.Path.{◌≡◌, sym, ap, ◌∙◌}
use mathlib.Core.List.{List, [], ◌∷◌, ◌++◌, map, append-nil, append_assoc}
use Prim.Native.Nat.{ℕ, zero, suc, ◌+◌, ◌≤◌, ◌<◌}
use native.Mathlib.Numerals.{add-one}
use native.Mathlib.Omega.{arith}
use lib.ListN.{length, get_or, take}
use Rattle.std.proofs.lemmas.List.{take_all, length-take}
use Rattle.rules.specs.Text.{number_text, column, points_text}
use Rattle.levels.specs.declared.Plan.{Plan}
use Rattle.levels.specs.declared.Point.{Point}
use Rattle.levels.specs.Copy.{point_in, points_in}
use Rattle.text.specs.Room.{number_room, column_room}
use Rattle.text.specs.declared.Text.{Text}
use Rattle.text.specs.Writes.{HasRoom, Writes}
use Rattle.text.proofs.Writes.{writes_none, writes_then, writes_as}
use Rattle.lines.specs.Room.{points_room}

-- "` point:level`"
abbrev point_text : Point → List ℕ
point_text p = column p.at ++ 58 ∷ number_text p.level.0

-- that of each of the first n
abbrev first_text : ℕ → List Point → List ℕ
first_text n ps = points_text (map point_in (take n ps))

first_next : (ps : List Point) (n : ℕ) (d : Point) → n < length ps → first_text n ps ++ point_text (get_or ps n d) ≡ first_text (n + 1) ps
unfolding points_text
first_next ps n d h = rw add-one (go ps n h)
  where
    go : (ps : List Point) (n : ℕ) → n < length ps → first_text n ps ++ point_text (get_or ps n d) ≡ first_text (suc n) ps
    go [] n h = let z : ⊥ = omega arith in absurd z
    go (p ∷ ps) zero h = sym (append-nil (point_text p))
    go (p ∷ ps) (suc n) h =
        append_assoc (point_text p) (first_text n ps) (point_text (get_or ps n d)) ∙ ap (λ (t : List ℕ). point_text p ++ t) (go ps n (omega arith))

-- the first n points have been written
abbrev pub PointsWritten : Text → List Point → ℕ → Text → Type 0
PointsWritten before ps n after = Writes before (first_text n ps) (points_room n) after

pub points_none : (t : Text) (ps : List Point) → PointsWritten t ps 0 t
unfolding points_text
points_none t ps = writes_none t

-- the next point's columns are written behind them
pub points_next : {a b c d e : Text} (ps : List Point) (n : ℕ) (x : Point) → PointsWritten a ps n b → n < length ps
    → Writes b (column (get_or ps n x).at) column_room c → Writes c (58 ∷ []) 1 d → Writes d (number_text (get_or ps n x).level.0) number_room e
    → PointsWritten a ps (n + 1) e
points_next ps n x done h at mark level = writes_as (first_next ps n x h) (omega arith) (writes_then done (writes_then at (writes_then mark level)))

-- of the points that a plan has
module _ (plan : Plan) {a b : Text} {n : ℕ} (done : PointsWritten a (take plan.count plan.points) n b) (h : n ≤ length (take plan.count plan.points)) where
  few : n ≤ plan.count
  few = omega (arith, length-take plan.count plan.points)

  -- there is room for the next one
  pub points_room_left : n < length (take plan.count plan.points) → HasRoom a (points_room plan.count) → HasRoom b (points_room 1)
  points_room_left l room = omega (arith, length-take plan.count plan.points, done.near, done.long)

  -- and those are all
  pub points_all : length (take plan.count plan.points) ≤ n → Writes a (points_text (points_in plan)) (points_room plan.count) b
  points_all e =
      writes_as (ap (λ (ps : List Point). points_text (map point_in ps)) (take_all n (take plan.count plan.points) e)) (omega (arith, few)) done
