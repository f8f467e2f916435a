-- How the open nodes are kept.
use Rattle.std.specs.Prelude.{ℕ, ◌≤◌, Option, Some, None, List, [], ◌∷◌, ◌++◌, Bool, if◌then◌else◌, length, drop, take, slice_range}
use Rattle.cr_types.specs.declared.Part.{Part}
use Rattle.cr_grammar.specs.declared.symbols.Action.{Action}
use Rattle.cr_known.specs.Nested.{Framed, part_by}
use Rattle.cr_known.specs.declared.nest.FrameRow.{FrameRow}

-- The nodes above one whose parts begin at a place, from inside: the parts of each end where those of the next begin.
abbrev pub framed : List FrameRow → ℕ → List Part → List Framed
framed [] end ps = []
framed (f ∷ fs) end ps =
    (record { node = f.node; first = f.first; shape = record { parts = slice_range ps f.start end; leaves = f.leaves } }) ∷ framed fs f.start ps

abbrev pub AreStacked : List FrameRow → ℕ → Type 0
AreStacked [] end = Unit {0}
AreStacked (f ∷ fs) end = (f.start ≤ end) × AreStacked fs f.start

-- parts that stand among others, or by themselves
abbrev pub parts_at : List Part → List Part → Option (ℕ × ℕ) → List Part
parts_at ps own None = own
parts_at ps own (Some r) = slice_range ps r.0 r.1

abbrev pub IsRange : List Part → Option (ℕ × ℕ) → Type 0
IsRange ps None = Unit {0}
IsRange ps (Some r) = (r.0 ≤ r.1) × (r.1 ≤ length ps)

-- the parts of the open nodes, and those of the node that closed last
pub record Parts : Type 0 where
  pub open_parts : List Part
  pub closed : List Part

abbrev pub listed : Option Part → List Part
listed None = []
listed (Some p) = p ∷ []

-- an action, and the end of a node whose parts begin at a place
abbrev pub parts_acted : Action → Parts → Parts
parts_acted x p = record { open_parts = p.open_parts ++ listed (part_by x); closed = p.closed }

abbrev pub parts_ended : (declarator : Bool) → ℕ → Parts → Parts
parts_ended declarator start p =
    record { open_parts = if declarator then p.open_parts else take start p.open_parts; closed = drop start p.open_parts }
