-- Items filled in, with names and hide sets by number.
use Rattle.std.specs.Prelude.{◌≡◌, ℕ, suc, Bool, List, [], ◌∷◌, ◌++◌, map, slice_index_or}
use Rattle.std.specs.List.{All}
use Rattle.cr_base.specs.declared.token.PpTok.{PpTok}
use Rattle.cr_macros.specs.declared.macros.Seen.{Seen}
use Rattle.cr_expand.specs.declared.held.Held.{Held}
use Rattle.cr_expand.specs.declared.items.Item.{Item}
use Rattle.cr_expand.specs.declared.items.Item.TheVariants as item
use Rattle.cr_expand.specs.declared.parts.Part.{Part}
use Rattle.cr_expand.specs.declared.parts.Part.TheVariants as part
use Rattle.cr_macros.specs.declared.fault.ExpandFault.{ExpandFault}
use Rattle.cr_macros.specs.Tokens.{Text, Token, token_of, Work}
use Rattle.cr_macros.specs.Substitution as spec
use Rattle.cr_base.specs.NameTable.{IsDistinct}
use Rattle.cr_expand.specs.HideSets.{Sets, Grows}
use Rattle.cr_expand.specs.Held.{held, all_held, all_args, IsKnown, Watch, Does, Stops}
use Rattle.cr_expand.specs.Items.{item_text, item_texts, IsTokenNamed}

-- a part with its text
abbrev pub part_text : List Text → Sets → Part → spec.Part
part_text names sets (part.Is h) = spec.Is (held names sets h)
part_text names sets part.Placemarker = spec.Placemarker
part_text names sets part.Joins = spec.Joins

abbrev pub part_texts : List Text → Sets → List Part → List spec.Part
part_texts names sets = map {A = Part} (part_text names sets)

abbrev pub IsPartKnown : List Text → Sets → Part → Type 0
IsPartKnown names sets (part.Is h) = IsKnown names sets h
IsPartKnown names sets part.Placemarker = Unit {0}
IsPartKnown names sets part.Joins = Unit {0}

-- the tokens of a list of arguments
abbrev pub arg_here : List (List Held) → ℕ → List Held
arg_here args i = slice_index_or args i []

abbrev pub spaced : Bool → List Held → List Held
spaced space [] = []
spaced space (h ∷ hs) = record { token = record h.token { space = space }; hide = h.hide } ∷ hs

abbrev pub parts_here : List Held → List Part
parts_here = map {A = Held} (λ h. part.Is h)

abbrev pub or_placemarker_here : List Held → List Part
or_placemarker_here [] = part.Placemarker ∷ []
or_placemarker_here (h ∷ hs) = part.Is h ∷ parts_here hs

abbrev pub comma_and_here : Held → List Part → List Held → List Part
comma_and_here comma rest [] = part.Placemarker ∷ []
comma_and_here comma rest (a ∷ as1) = part.Is comma ∷ rest

abbrev pub unhidden : PpTok → Held
unhidden t = record { token = t; hide = record { 0 = 0 } }

-- An item that is no string, filled in; a string is made elsewhere.
abbrev pub filled_here : List (List Held) → List (List Held) → Held → Item → List Part
filled_here raw full made (item.Stays t) = part.Is (unhidden t) ∷ []
filled_here raw full made (item.Spelt hash i) = part.Is made ∷ []
filled_here raw full made (item.Bare t i) = or_placemarker_here (spaced t.space (arg_here raw i))
filled_here raw full made (item.Full t i) = parts_here (spaced t.space (arg_here full i))
filled_here raw full made (item.CommaRest comma t i) = comma_and_here (unhidden comma) (or_placemarker_here (spaced t.space (arg_here full i))) (arg_here raw i)
filled_here raw full made item.Paste = part.Joins ∷ []

-- The names of an item's tokens are known.
abbrev pub IsItemNamed : List Text → Item → Type 0
IsItemNamed names (item.Stays t) = IsTokenNamed names t
IsItemNamed names (item.Spelt t i) = IsTokenNamed names t
IsItemNamed names (item.Bare t i) = IsTokenNamed names t
IsItemNamed names (item.Full t i) = IsTokenNamed names t
IsItemNamed names (item.CommaRest comma t i) = IsTokenNamed names comma × IsTokenNamed names t
IsItemNamed names item.Paste = Unit {0}

-- The string of an item that is one was made; for another item nothing was done.
abbrev pub IsMade : Watch → List Seen → List Seen → List Text → List Text → Sets → Token → List (List Held) → Held → Item → Type 0
IsMade w before now names new sets name raw made (item.Spelt hash i) =
    Does w before now (spec.string_of name (token_of names [] hash) (all_held names sets (arg_here raw i))) (held new sets made) × IsKnown new sets made
IsMade w before now names new sets name raw made (item.Stays t) = (new ≡ names) × (now ≡ before)
IsMade w before now names new sets name raw made (item.Bare t i) = (new ≡ names) × (now ≡ before)
IsMade w before now names new sets name raw made (item.Full t i) = (new ≡ names) × (now ≡ before)
IsMade w before now names new sets name raw made (item.CommaRest comma t i) = (new ≡ names) × (now ≡ before)
IsMade w before now names new sets name raw made item.Paste = (new ≡ names) × (now ≡ before)

-- what an item gives, as a part of a body
abbrev pub filled_text : List Text → Sets → Token → List (List Held) → List (List Held) → Item → Work (List spec.Part)
filled_text names sets name raw full i = spec.filled name (all_args names sets raw) (all_args names sets full) (item_text names i)

-- what items give, one after another
abbrev pub all_filled_text : List Text → Sets → Token → List (List Held) → List (List Held) → List Item → Work (List spec.Part)
all_filled_text names sets name raw full is1 = spec.all_filled name (all_args names sets raw) (all_args names sets full) (item_texts names is1)

-- What the work gives is put behind the parts.
abbrev pub Adds : Watch → List Seen → List Seen → Work (List spec.Part) → List Text → Sets → List Part → List Part → Type 0
Adds w before now m new sets old parts =
    (added : List Part) × (parts ≡ old ++ added) × Does w before now m (part_texts new sets added) × All (IsPartKnown new sets) added

-- What stands when some of the items are filled in: what goes on from here goes on from the start.
pub record IsFilling (w : Watch) (before now : List Seen) (names new : List Text) (sets : Sets) (name : PpTok) (raw full : List (List Held)) (done left : List Item) (parts : List Part) : Type 0 where
  pub grows : Grows names new
  pub distinct : IsDistinct new
  pub known : All (IsPartKnown new sets) parts
  pub does : (hide : List Text) (s : List Seen) (rest : List spec.Part) → Does w now s (all_filled_text names sets (token_of names hide name) raw full left) rest
      → Does w before s (all_filled_text names sets (token_of names hide name) raw full done) (part_texts new sets parts ++ rest)
  pub stops : (hide : List Text) (e : ExpandFault) → Stops (all_filled_text names sets (token_of names hide name) raw full left) e → Stops (all_filled_text names sets (token_of names hide name) raw full done) e

-- how many `##` are among the parts
abbrev pub joins : List Part → ℕ
joins [] = 0
joins (part.Joins ∷ ps) = suc (joins ps)
joins (part.Is h ∷ ps) = joins ps
joins (part.Placemarker ∷ ps) = joins ps
