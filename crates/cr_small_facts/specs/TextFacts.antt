-- What a text of the small form tells of the names that are spelled as the old one.
use Rattle.std.specs.Prelude.{ℕ, Bool, true, false, List, [], ◌∷◌, ◌++◌, Option, Some, None, if◌then◌else◌, bytes_eq}
use Rattle.std.specs.List.{flat_map, zip}
use Rattle.std.specs.FinSet.{from_list}
use Rattle.cr_base.specs.declared.token.Place.{Place}
use Rattle.cr_base.specs.declared.key.Key.{Key}
use Rattle.cr_base.specs.declared.key.Key.TheVariants as key
use Rattle.cr_base.specs.declared.key.Kind.{Kind}
use Rattle.cr_base.specs.declared.key.Kind.TheVariants as kind
use Rattle.cr_base.specs.declared.cause.Role.TheVariants as role
use Rattle.cr_lex.specs.Lexing.{Token}
use Rattle.cr_small.specs.Keys as small
use Rattle.cr_small.specs.declared.binder.Denotation.{Denotation}
use Rattle.cr_facts.specs.FactOrder.{Facts}
use Rattle.cr_facts.specs.declared.fact.Fact.{Fact}
use Rattle.cr_facts.specs.declared.fact.Fact.TheVariants as fact

-- an offset in the file of a number
abbrev pub place : ℕ → ℕ → Place
place file offset = record { path = record { 0 = file }; offset = offset }

-- The key, over all files, of an entity of the file of a number: its name where it has external linkage, and else the
-- place of its first declaring token (C11 6.2.2).
abbrev pub key_over : ℕ → small.Key → Key
key_over file (small.external name) = key.Ext name
key_over file (small.at offset) = key.At (place file offset)

abbrev pub kind_of : Denotation → Kind
kind_of d = if d.function then kind.Function else kind.Object

abbrev pub fact_if : Bool → Fact → List Fact
fact_if true f = f ∷ []
fact_if false f = []

-- What an identifier at a place tells that denotes an entity of a key: that it does, and that it is a final token; the
-- entity's kind; where it declares the entity, that; and where that has linkage, and so stands at file scope, that.
abbrev pub facts_at : Place → Key → Denotation → List Fact
facts_at p k d =
    fact.Denotes p k ∷ fact.HasRole p role.Final ∷ fact.OfKind k (kind_of d) ∷ fact_if d.declares (fact.Declares k p) ++ fact_if d.linked (fact.FileScope k)

abbrev pub facts_of_key : ℕ → Token → Denotation → Option small.Key → List Fact
facts_of_key file t d None = []
facts_of_key file t d (Some k) = facts_at (place file t.at) (key_over file k) d

abbrev pub facts_if_denoted : ℕ → List Token → Token → Option Denotation → List Fact
facts_if_denoted file tokens t None = []
facts_if_denoted file tokens t (Some d) = facts_of_key file t d (small.key_of tokens d)

-- What a token of a text tells: nothing where it isn't spelled as the old name.
abbrev pub facts_of_token : ℕ → List ℕ → List Token → Token → Option Denotation → List Fact
facts_of_token file old tokens t denotes = if bytes_eq t.text old then facts_if_denoted file tokens t denotes else []

abbrev pub facts_among : ℕ → List ℕ → List Token → List (Token × Option Denotation) → List Fact
facts_among file old tokens pairs = flat_map (λ one. facts_of_token file old tokens one.0 one.1) pairs

-- The facts of the text of these tokens, each of which denotes what is listed. The text is that of the file of a number.
abbrev pub text_facts : ℕ → List ℕ → List Token → List (Option Denotation) → Facts
text_facts file old tokens denotes = from_list (facts_among file old tokens (zip tokens denotes))
