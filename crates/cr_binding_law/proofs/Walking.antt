-- A renamed unit is bound as it was.
use Rattle.std.specs.Prelude.{◌≡◌, ℕ, Bool, true, false, Option, Some, None, unwrap_or, length, Contains}
use Rattle.std.proofs.Common.{refl}
use Rattle.cr_base.specs.declared.Kind.TheVariants as kind
use Rattle.cr_base.specs.declared.Name.{Name}
use Rattle.cr_grammar.specs.declared.symbols.NonTerm.{NonTerm}
use Rattle.cr_grammar.specs.declared.symbols.NonTerm.TheVariants as n
use Rattle.cr_grammar.specs.declared.symbols.Action.{Action}
use Rattle.cr_grammar.specs.declared.symbols.Action.TheVariants as a
use Rattle.cr_ll.specs.Derivation.{Trees, none, token, action, node}
use Rattle.cr_scope.specs.declared.Space.TheVariants as space
use Rattle.cr_types.specs.Types.{Void, Arith}
use Rattle.cr_binding.specs.Source.{Source, text_at}
use Rattle.cr_binding.specs.State.{Declaration, State, start}
use Rattle.cr_binding.specs.Specifying.{declared_type}
use Rattle.cr_binding.specs.Expressions.{is_arrow}
use Rattle.cr_binding.specs.Actions.{passed, acted}
use Rattle.cr_binding.specs.Scoping.{unless_failed}
use Rattle.cr_binding.specs.Binding.{ended, asked, goes_on, walk, bound}
use Rattle.cr_binding.specs.MembersStay.{AreDistinct}
use Rattle.cr_binding.specs.FreeUnits.{IsFreeUnit}
use Rattle.cr_binding.specs.BindingGrows.{Grows}
use Rattle.cr_binding.specs.BindingStays.{IsAlike, Along, BindingStays}
use Rattle.cr_binding.specs.SoundUnits.{IsDone, ActionsAreDone}
use Rattle.cr_binding.proofs.Growing.{followed, acted_grows}
use Rattle.cr_binding_law.specs.Renaming.{IsRenamed, AreEntities}
use Rattle.cr_binding_law.proofs.Renamed.{Laws}
use Rattle.cr_binding_law.proofs.Texts.{words_alike, operates_alike, arrow_alike}
use Rattle.cr_binding_law.proofs.Acting.{plain_alike, parameter_alike, named_alike}
use Rattle.cr_binding_law.proofs.Mentioning.{specifier_alike, mention_alike, alone_alike, definition_alike, tag_use_alike}
use Rattle.cr_binding_law.proofs.Membering.{member_alike, splice_alike, selects_alike, designates_alike}
use Rattle.cr_binding_law.proofs.Jumping.{jumps_alike}

-- what follows of each action follows along the walk
along : (P Q : NonTerm → ℕ → Action → State → Type 0) → ((m : NonTerm) (first : ℕ) (x : Action) (s : State) → P m first x s → Q m first x s) → (t : Source) (m : NonTerm) (first : Option ℕ) (trees : Trees) (s : State) → Along P t m first trees s → Along Q t m first trees s
along P Q each t m first none s h = tt
along P Q each t m first (token i next) s h =
    along P Q each t m (Some (unwrap_or first i)) next (goes_on s (passed t m i s)) h
along P Q each t m first (action x next) s h = (
  each m (unwrap_or first s.last) x s h.0,
  along P Q each t m first next (goes_on s (acted t m (unwrap_or first s.last) x s)) h.1,
)
along P Q each t m first (node k asks children next) s h = (
  along P Q each t k None children (asked asks s) h.0,
  along P Q each t m first next (unless_failed s (ended m k children s (walk t k None children (asked asks s)))) h.1,
)

module _ (law : Laws) (class : ℕ → Bool) (old new : Name) (t u : Source) (ren : IsRenamed class old new t u) (end : State) (ents : AreEntities class t end) (free : IsFreeUnit class old new t end) (distinct : AreDistinct t end.members) (labels : (d : Declaration) → Contains end.declarations d → d.space ≡ space.Label → length d.path ≡ 1) where
  action_alike : (m : NonTerm) (first : ℕ) (x : Action) (s : State) → Grows s end → s.fault ≡ None → (acted t m first x s).fault ≡ None → Grows (acted t m first x s) end → IsAlike t u m first x s
  action_alike m first a.Spec s more sound h g = specifier_alike law class old new t u ren end ents free first s more h g
  action_alike m first a.Declare s more sound h g = named_alike law class old new t u ren end ents free s.pending.name s h g
  action_alike m first a.Param s more sound h g =
      parameter_alike law class old new t u ren end ents free s.pending.name (declared_type s) s h g
  action_alike m first a.Enumerator s more sound h g =
      plain_alike law class old new t u ren end ents free space.Ordinary kind.Enumerator first Arith s h g
  action_alike m first a.TagDef s more sound h g = definition_alike law class old new t u ren end ents free s.last s more h g
  action_alike m first a.TagAlone s more sound h g = alone_alike law class old new t u ren end ents free s.last s more h g
  action_alike m first a.TagUse s more sound h g = tag_use_alike law class old new t u ren end ents free s.last s more h g
  action_alike m first a.Member s more sound h g =
      member_alike law class old new t u ren end ents free distinct s.filled s.pending.name (declared_type s) s h g refl
  action_alike m first a.Splice s more sound h g = splice_alike law class old new t u ren end ents free distinct s h g
  action_alike m first a.Label s more sound h g =
      plain_alike law class old new t u ren end ents free space.Label kind.Label s.last Void s h g
  action_alike m first a.EndBody s more sound h g =
      jumps_alike law class old new t u ren end ents free labels s.jumps s sound more h (record { declarations = g.declarations; uses = g.uses; records = g.records; written = g.written; members = g.members; completed = g.completed; ended = g.ended; hidden = g.hidden })
  action_alike m first a.Callee s more sound h g = mention_alike law class old new t u ren end ents free true s.last s more h g
  action_alike m first a.Mention s more sound h g = mention_alike law class old new t u ren end ents free false s.last s more h g
  action_alike m first a.Op s more sound h g = operates_alike class old new t u ren m first
  action_alike m first a.Select s more sound h g = (
    arrow_alike class old new t u ren first,
    selects_alike law class old new t u ren end ents free distinct (is_arrow (text_at t first)) s.last s more h g,
  )
  action_alike m first a.OffMember s more sound h g =
      selects_alike law class old new t u ren end ents free distinct false s.last s more h g
  action_alike m first a.Desig s more sound h g =
      designates_alike law class old new t u ren end ents free distinct s.target s.last s more h g
  action_alike m first _ s more sound h g = tt

  done_alike : (m : NonTerm) (first : ℕ) (x : Action) (s : State) → IsDone t end m first x s → IsAlike t u m first x s
  done_alike m first x s d =
      action_alike m first x s (followed s (acted t m first x s) end (acted_grows t m first x s) d.stays) d.before d.after d.stays

pub renamed_bound : (law : Laws) → BindingStays → ActionsAreDone → (class : ℕ → Bool) (old new : Name) (t u : Source) (tree : Trees) → IsRenamed class old new t u → (bound t tree).fault ≡ None → AreEntities class t (bound t tree) → IsFreeUnit class old new t (bound t tree) → AreDistinct t (bound t tree).members → ((d : Declaration) → Contains (bound t tree).declarations d → d.space ≡ space.Label → length d.path ≡ 1) → bound u tree ≡ bound t tree
renamed_bound law stays done class old new t u tree ren sound ents free distinct labels =
    stays t u tree (words_alike class old new t u ren)
    (along (IsDone t (bound t tree)) (IsAlike t u) (done_alike law class old new t u ren (bound t tree) ents free distinct labels) t n.Unit None tree start (done t tree sound))
