-- What tells an entity from those of all translation units: equal keys are one entity (C11 6.2.2; that tags of file scope are
-- one in all units is our own rule).
use Rattle.std.specs.Prelude.{◌≡◌, Contains, ℕ, Bool, true, false, ◌&&◌, ◌==◌, if◌then◌else◌, Option, Some, None, slice_get}
use Rattle.std.specs.List.{find}
use Rattle.std.specs.Option.{option_map_or}
use Rattle.cr_base.specs.declared.Kind.{Kind}
use Rattle.cr_base.specs.declared.Kind.TheVariants as kind
use Rattle.cr_base.specs.declared.key.TagKind.{TagKind}
use Rattle.cr_base.specs.declared.key.TagKind.TheVariants as tag
use Rattle.cr_base.specs.declared.key.RecordKey.{RecordKey}
use Rattle.cr_base.specs.declared.key.RecordKey.TheVariants as record_key
use Rattle.cr_base.specs.declared.key.Key.{Key}
use Rattle.cr_base.specs.declared.key.Key.TheVariants as key
use Rattle.cr_base.specs.declared.token.Origin.{Origin}
use Rattle.cr_base.specs.declared.token.Origin.TheVariants.{At, Made}
use Rattle.cr_scope.specs.declared.Linkage.{Linkage}
use Rattle.cr_scope.specs.declared.Linkage.TheVariants as linkage
use Rattle.cr_scope.specs.Linkage.{is_file_scope}
use Rattle.cr_binding.specs.Source.{Source, token_of, text_at}
use Rattle.cr_binding.specs.State.{Declaration, Member, State}
use Rattle.cr_binding.specs.Entities.{is_tag, first_token}
use Rattle.cr_binding.specs.Resolution.{Thing, Declared, InRecord, BuiltIn, occurrences}

-- the place of a token, or the token itself where preprocessing made it
abbrev pub key_by : ℕ → ℕ → Origin → Key
key_by unit i (At p) = key.At p
key_by unit i Made = key.Made unit i

abbrev pub token_key : ℕ → Source → ℕ → Key
token_key unit t i = key_by unit i (token_of t i).origin

abbrev pub record_key_by : ℕ → ℕ → Origin → RecordKey
record_key_by unit i (At p) = record_key.At p
record_key_by unit i Made = record_key.Made unit i

abbrev pub token_record_key : ℕ → Source → ℕ → RecordKey
token_record_key unit t i = record_key_by unit i (token_of t i).origin

abbrev pub tag_kind : Kind → TagKind
tag_kind kind.Struct = tag.Struct
tag_kind kind.Union = tag.Union
tag_kind _ = tag.Enum

abbrev pub is_external : Linkage → Bool
is_external linkage.External = true
is_external _ = false

abbrev pub is_file_tag : Declaration → Bool
is_file_tag d = is_tag d && is_file_scope d.path

-- what has external linkage by its name, a tag of file scope by its keyword and name, anything else by the first token that
-- declares it
abbrev pub declaration_key : ℕ → Source → State → Declaration → Key
declaration_key unit t s d =
    if is_external d.linkage
    then key.Ext (text_at t d.token)
    else (if is_file_tag d then key.Tag (tag_kind d.kind) (text_at t d.token) else token_key unit t (first_token t s.declarations d))

-- the tag that is declared first at a token
abbrev pub is_tag_of : ℕ → Declaration → Bool
is_tag_of i d = is_tag d && d.token == i

abbrev pub tag_record_key : ℕ → Source → ℕ → Option Declaration → RecordKey
tag_record_key unit t i None = token_record_key unit t i
tag_record_key unit t i (Some d) =
    if is_file_scope d.path then record_key.Tag (tag_kind d.kind) (text_at t i) else token_record_key unit t i

-- a record by its tag of file scope, and else by its first token
abbrev pub record_key_at : ℕ → Source → State → ℕ → RecordKey
record_key_at unit t s i = tag_record_key unit t i (find (is_tag_of i) s.declarations)

-- the first token of record number r
abbrev pub record_token : State → ℕ → ℕ
record_token s r = option_map_or (λ x. x.token) (slice_get s.records r) 0

-- a member by the record in which it is written, and its name
abbrev pub member_key : ℕ → Source → State → Member → Key
member_key unit t s m = key.Member (record_key_at unit t s (record_token s m.own)) (text_at t m.token)

-- the key of what token i of a unit means; what the compiler supplies is another thing at each token
abbrev pub key_of : ℕ → Source → State → ℕ → Thing → Key
key_of unit t s i (Declared d) = declaration_key unit t s d
key_of unit t s i (InRecord m) = member_key unit t s m
key_of unit t s i BuiltIn = key.Made unit i

-- token i of a unit means something of this key
abbrev pub HasKey : ℕ → Source → State → ℕ → Key → Type 0
HasKey unit t s i k = (x : Thing) × Contains (occurrences s) (i, x) × (k ≡ key_of unit t s i x)

-- A token of one unit and a token of another one, or of the same, mean one entity.
abbrev pub AreLinked : ℕ → Source → State → ℕ → ℕ → Source → State → ℕ → Type 0
AreLinked unit t s i unit' t' s' j = (k : Key) × HasKey unit t s i k × HasKey unit' t' s' j k
