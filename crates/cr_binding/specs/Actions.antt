-- What each token and each action does.
use Rattle.std.specs.Prelude.{ℕ, ◌+◌, true, false, Some, None, [], ◌∷◌, ◌++◌}
use Rattle.cr_base.specs.declared.Kind.TheVariants as kind
use Rattle.cr_grammar.specs.declared.symbols.NonTerm.{NonTerm}
use Rattle.cr_grammar.specs.declared.symbols.Action.{Action}
use Rattle.cr_grammar.specs.declared.symbols.Action.TheVariants as a
use Rattle.cr_scope.specs.declared.Space.TheVariants as space
use Rattle.cr_types.specs.Types.{Arith}
use Rattle.cr_typing.specs.declared.expressions.Op.TheVariants as op
use Rattle.cr_binding.specs.Source.{Source, text_at}
use Rattle.cr_binding.specs.State.{nothing_pending, State}
use Rattle.cr_binding.specs.Declaring.{declare_named, declare_plain, declare_parameter}
use Rattle.cr_binding.specs.Specifying.{read_in, type_specifier, declared_type}
use Rattle.cr_binding.specs.Tags.{tag_definition, tag_alone, tag_use, untagged}
use Rattle.cr_binding.specs.RecordMembers.{add_member, splice, end_record}
use Rattle.cr_binding.specs.Expressions.{push, value_type, operated, postfix, identifier, selection, is_arrow}
use Rattle.cr_binding.specs.Initialising.{initialiser, list_opened, value_ended, index_designator, designator}
use Rattle.cr_binding.specs.Scoping.{entered_in, left, body_within, declare_label, body_ended}

-- token number i of a node
abbrev pub passed : Source → NonTerm → ℕ → State → State
passed t m i s = record (read_in m t i s) { last = i }

-- An action of a node, of which `first` is the first token. The last token is the one that the action stands behind.
abbrev pub acted : Source → NonTerm → ℕ → Action → State → State
-- declarations (6.7, 6.9)
acted t m first a.Decl s = record s { pending = nothing_pending }
acted t m first a.Spec s = type_specifier t first s
acted t m first a.Name s = record s { pending = record s.pending { name = Some s.last; parameters = None } }
acted t m first a.Declare s = declare_named t s.pending.name (declared_type s) s
acted t m first a.Param s = declare_parameter t s.pending.name (declared_type s) s
acted t m first a.TypeName s = push (declared_type s) s
acted t m first a.Enumerator s = declare_plain t space.Ordinary kind.Enumerator first Arith s
-- tags and members (6.7.2)
acted t m first a.TagDef s = tag_definition t s.last s
acted t m first a.TagAlone s = tag_alone t s.last s
acted t m first a.TagUse s = tag_use t s.last s
acted t m first a.Anon s = untagged (s.last + 1) s
acted t m first a.EndRec s = end_record s.filled s
acted t m first a.Member s = add_member t s.filled s.pending.name (declared_type s) s
acted t m first a.Splice s = splice t s
-- scopes and labels (6.2.1)
acted t m first a.Enter s = entered_in m s
acted t m first a.Leave s = left s
acted t m first a.Body s = body_within s.pending.parameters s
acted t m first a.EndBody s = body_ended t s
acted t m first a.Label s = declare_label t s.last s
acted t m first a.Goto s = record s { jumps = s.jumps ++ s.last ∷ [] }
-- expressions (6.5)
acted t m first a.Callee s = identifier true t s.last s
acted t m first a.Mention s = identifier false t s.last s
acted t m first a.Value s = push (value_type t s.last) s
acted t m first a.Op s = record s { values = operated m (text_at t first) s.values }
acted t m first a.Select s = selection (is_arrow (text_at t first)) t s.last s
acted t m first a.OffMember s = selection false t s.last s
acted t m first a.OffIndex s = record s { values = postfix op.Index s.values }
-- initialisers (6.7.9)
acted t m first a.InitOf s = initialiser m s
acted t m first a.ListOpen s = list_opened s
acted t m first a.Item s = value_ended t s
acted t m first a.Index s = index_designator s
acted t m first a.Desig s = designator s.target t s.last s
-- attributes, whose tokens mean nothing (our own rule)
acted t m first a.Hidden s = record s { hidden = s.hidden ++ s.last ∷ [] }
-- what declarators derive and where lists end is read of the tree
acted t m first _ s = s
