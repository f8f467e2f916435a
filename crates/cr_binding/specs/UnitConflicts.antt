-- Which entities of a unit can't be renamed from one name to another, since something would change its meaning.
use Rattle.std.specs.Prelude.{◌≡◌, ◌⊎◌, ℕ, ◌+◌, Bool, true, false, ◌==◌, Option, Some, None, option_map, List, [], map, max, take, slice_get, Contains, ◌<◌, length}
use Rattle.std.specs.List.{find}
use Rattle.cr_base.specs.declared.token.Name.{Name}
use Rattle.cr_base.specs.declared.token.Place.{Place}
use Rattle.cr_base.specs.declared.token.Origin.{Origin}
use Rattle.cr_base.specs.declared.token.Origin.TheVariants.{At, Made}
use Rattle.cr_base.specs.declared.key.Key.{Key}
use Rattle.cr_scope.specs.Declarations.{Entry, Flat, number}
use Rattle.cr_capture.specs.declared.Mention.{Mention}
use Rattle.cr_capture.specs.declared.Mention.TheVariants as mention
use Rattle.cr_capture.specs.Conflicts.{Pair, IsConflict}
use Rattle.cr_binding.specs.Source.{Source, token_of, name_at}
use Rattle.cr_binding.specs.State.{Declaration, Member, LookedUp, WasAsked, IsParameter, IsBuiltIn, State}
use Rattle.cr_binding.specs.Entities.{entry}
use Rattle.cr_binding.specs.Keys.{declaration_key, member_key}

-- the place of a token; where preprocessing made it, the place of the outermost macro's name
abbrev pub place_by : Place → Origin → Place
place_by site (At p) = p
place_by site Made = site

abbrev pub place_at : Source → ℕ → Place
place_at t i = place_by (token_of t i).site (token_of t i).origin

-- the first n declarations
abbrev pub entries_at : Source → State → ℕ → List Entry
entries_at t s n = map (entry t) (take n s.declarations)

-- the scopes on a path when there were n declarations
abbrev pub scopes_at : Source → State → List ℕ → ℕ → Flat
scopes_at t s path n = record { scopes = []; present = path; entries = entries_at t s n }

-- The same as far as conflicts depend on them: not on the scopes that were left.
abbrev pub AreScopesAt : Source → State → List ℕ → ℕ → Flat → Type 0
AreScopesAt t s path n f = (f.present ≡ path) × (f.entries ≡ entries_at t s n)

-- a tag that a mention declares is declared when its conflicts are looked for
abbrev pub made_by : {A : Type 0} → Option A → ℕ → ℕ
made_by None before = before + 1
made_by (Some d) before = before

-- the identifier of an ask that was denied declares a parameter, or else is built in
abbrev pub IsOfAsk : State → ℕ → Bool → Type 0
IsOfAsk s i true = Contains s.uses (IsParameter i)
IsOfAsk s i false = Contains s.uses (IsBuiltIn i)

-- The unit has this mention, in these scopes. Of a declaration only those up to it matter, not where the scopes are.
abbrev pub Mentions : Source → State → Flat → Mention → Type 0
Mentions t s f (mention.Named sp name i denoted) =
    (path : List ℕ) × (before : ℕ) × Contains s.uses (LookedUp sp i path before (option_map number denoted))
    × (name ≡ name_at t i) × AreScopesAt t s path (made_by denoted before) f
Mentions t s f (mention.Asked name i parameter) =
    (path : List ℕ) × (before : ℕ) × Contains s.uses (WasAsked i path before false)
    × (name ≡ name_at t i) × AreScopesAt t s path before f × IsOfAsk s i parameter
Mentions t s f (mention.Declared c) =
    (number c < length s.declarations) × (f.entries ≡ entries_at t s (number c + 1))

-- the declaration of a pair: that number, or the parameter that the token declares
abbrev pub declaration_of : State → Pair → Option Declaration
declaration_of s (Some c, i) = slice_get s.declarations (number c)
declaration_of s (None, i) = find (λ d. d.token == i) s.declarations

-- A mention of the unit would change its meaning at this place, where the entity of the key had the name new in place of old.
abbrev pub ChangesAMention : ℕ → Source → State → (old new : Name) → Key → Place → Type 0
ChangesAMention unit t s old new k p =
    (f : Flat) × (what : Mention) × (x : Pair) × (d : Declaration)
    × Mentions t s f what × IsConflict f old new x what
    × (declaration_of s x ≡ Some d) × (k ≡ declaration_key unit t s d) × (p ≡ place_at t x.1)

-- Two members would have one name in a record (C11 6.7.2.1, 6.2.3). The place is the later one's.
abbrev pub MeetsAMember : ℕ → Source → State → (old new : Name) → Key → Place → Type 0
MeetsAMember unit t s old new k p =
    (m : Member) × (n : Member) × Contains s.members m × Contains s.members n × (m.holder ≡ n.holder)
    × (name_at t m.token ≡ old) × (name_at t n.token ≡ new)
    × (k ≡ member_key unit t s m) × (p ≡ place_at t (max m.token n.token))

abbrev pub Conflicts : ℕ → Source → State → (old new : Name) → Key → Place → Type 0
Conflicts unit t s old new k p = ChangesAMention unit t s old new k p ⊎ MeetsAMember unit t s old new k p
