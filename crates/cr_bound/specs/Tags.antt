-- Tags at the last token, and by the type that they have already.
use Rattle.std.specs.Prelude.{ℕ, false, if◌then◌else◌, Option, Some, None}
use Rattle.cr_base.specs.declared.Kind.{Kind}
use Rattle.cr_base.specs.declared.cause.IllCause.TheVariants as cause
use Rattle.cr_scope.specs.declared.Space.TheVariants as space
use Rattle.cr_scope.specs.Redeclaration.{repeats}
use Rattle.cr_binding.specs.Declaring.{failed, looked_up}
use Rattle.cr_binding.specs.Specifying.{based}
use Rattle.cr_types.specs.Types.{CType}
use Rattle.cr_binding.specs.Source.{Source}
use Rattle.cr_binding.specs.State.{State}
use Rattle.cr_binding.specs.Tags.{with_record, new_type, declare_tag, tag_alone, tag_definition, tag_use, untagged}

-- the tag of token i is declared with a type
abbrev pub tagged : ℕ → CType → Source → State → State
tagged i c t s = declare_tag t i c s

-- the type of a tag, where it has one already or gets a new one
abbrev pub type_or_new : Option CType → State → CType
type_or_new None s = new_type s
type_or_new (Some c) s = c

abbrev pub announcing : Option CType → ℕ → State → State
announcing None i s = with_record i s
announcing (Some c) i s = s

abbrev pub tagging : Option CType → ℕ → Source → State → State
tagging o i t s = declare_tag t i (type_or_new o s) (announcing o i s)

abbrev pub tag_alone_here : Source → State → State
tag_alone_here t s = tag_alone t s.last s

abbrev pub tag_completed : Source → State → State
tag_completed t s = tag_definition t s.last s

abbrev pub tag_used : Source → State → State
tag_used t s = tag_use t s.last s

abbrev pub untagged_at : ℕ → State → State
untagged_at i s = untagged i s

-- a visible tag of a kind and a type is used
abbrev pub using : Kind → Option ℕ → ℕ → CType → Source → State → State
using what k i c t s = if repeats false what s.keyword then based c (looked_up space.Tag i k s) else failed cause.Redeclared i s
