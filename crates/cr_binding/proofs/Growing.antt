-- The lists of a unit only grow.
use Rattle.std.specs.Prelude.{◌≡◌, ℕ, Bool, true, false, not, ◌&&◌, if◌then◌else◌, Option, Some, None, is_some, unwrap_or, Result, Ok, Err, List, [], ◌∷◌, ◌++◌, map, length, take, eqb, ◌+◌}
use Rattle.std.specs.List.{list_any}
use Rattle.std.proofs.Common.{refl, sym, ◌∙◌, ap}
use Rattle.std.proofs.lemmas.List.{append_assoc, append-nil}
use Rattle.cr_base.specs.declared.cause.IllCause.{IllCause}
use Rattle.cr_base.specs.declared.Kind.{Kind}
use Rattle.cr_base.specs.declared.Kind.TheVariants as kind
use Rattle.cr_grammar.specs.declared.symbols.NonTerm.{NonTerm}
use Rattle.cr_grammar.specs.declared.symbols.NonTerm.TheVariants as n
use Rattle.cr_grammar.specs.declared.symbols.Action.{Action}
use Rattle.cr_grammar.specs.declared.symbols.Action.TheVariants as a
use Rattle.cr_ll.specs.Derivation.{Item, Passed, Due, Asked, Trees, none, token, action, node}
use Rattle.cr_scope.specs.declared.Space.{Space}
use Rattle.cr_scope.specs.declared.Space.TheVariants as space
use Rattle.cr_scope.specs.declared.Linkage.{Linkage}
use Rattle.cr_scope.specs.declared.Linkage.TheVariants as linkage
use Rattle.cr_scope.specs.Redeclaration.{clashes, repeats}
use Rattle.cr_types.specs.Types.{CType, Void, Arith}
use Rattle.cr_decl.specs.declared.SpecWord.{SpecWord}
use Rattle.cr_decl.specs.declared.SpecWord.TheVariants as w
use Rattle.cr_decl.specs.Specifiers.{may_follow, is_permitted}
use Rattle.cr_typing.specs.Initialisers.{Braces, starts_from}
use Rattle.cr_typing.specs.ExpressionTypes.{decayed}
use Rattle.cr_binding.specs.Source.{Source, name_at, text_at, is_identifier, is_built_in}
use Rattle.cr_binding.specs.State.{Declaration, Member, Use, IsParameter, IsBuiltIn, Selects, Target, Whole, Within, State}
use Rattle.cr_binding.specs.Entities.{entry, token_or}
use Rattle.cr_binding.specs.Declaring.{failed, used, declare, declaration, declaration_at, meaning_here, linkage_for, linkage_seen, is_internal, has_word, looked_up, declare_as, kind_of, declare_named, declare_plain, declare_parameter}
use Rattle.cr_binding.specs.Specifying.{specifier_at, specified, announced, read_in, words_ended, based, named_type, atomic_type, specified_by, type_specifier, specified_type, declared_type}
use Rattle.cr_binding.specs.Tags.{is_record_kind, is_union_kind, with_record, new_type, record_of, tag_here, declare_tag, tag_again, tag_alone, filling, completing, tag_definition, untagged, used_tag}
use Rattle.cr_binding.specs.RecordMembers.{least_token, repeated, select, write_unless, named_member, add_member, brought_in, add_anonymous, splice, end_record}
use Rattle.cr_binding.specs.Expressions.{push, operand, is_function_name, is_value, built_in, denoting, identifier, selecting, is_arrow}
use Rattle.cr_binding.specs.Initialising.{dotted, designating, designator, initialiser}
use Rattle.cr_binding.specs.Scoping.{entered_in, body_within, unless_failed, jump_to, all_jumps, body_ended}
use Rattle.cr_binding.specs.Actions.{passed, acted}
use Rattle.cr_binding.specs.Binding.{is_empty, ended_as, ended, asked, unless_refused, goes_on, walk}
use Rattle.cr_binding.specs.BindingGrows.{Extends, Grows, BindingGrows, FaultStays, ScopesAreTold}

-- ---- growing

extends_itself : {A : Type 0} (xs ys : List A) → ys ≡ xs → Extends xs ys
extends_itself xs ys e = ([], e ∙ sym (append-nil xs))

pub extends_on : {A : Type 0} (xs ys zs : List A) → Extends xs ys → Extends ys zs → Extends xs zs
extends_on xs ys zs x y = (x.0 ++ y.0, y.1 ∙ ap (λ l. l ++ y.0) x.1 ∙ append_assoc xs x.0 y.0)

-- a state with the same lists
same : (s s' : State) → s'.declarations ≡ s.declarations → s'.uses ≡ s.uses → s'.records ≡ s.records → s'.written ≡ s.written → s'.members ≡ s.members → s'.completed ≡ s.completed → s'.ended ≡ s.ended → s'.hidden ≡ s.hidden → Grows s s'
same s s' d u r w m c e h =
    record {
      declarations = extends_itself _ _ d;
      uses = extends_itself _ _ u;
      records = extends_itself _ _ r;
      written = extends_itself _ _ w;
      members = extends_itself _ _ m;
      completed = extends_itself _ _ c;
      ended = extends_itself _ _ e;
      hidden = extends_itself _ _ h;
    }

pub itself : (s : State) → Grows s s
itself s = same s s refl refl refl refl refl refl refl refl

pub followed : (s x y : State) → Grows s x → Grows x y → Grows s y
followed s x y g h =
    record {
      declarations = extends_on _ _ _ g.declarations h.declarations;
      uses = extends_on _ _ _ g.uses h.uses;
      records = extends_on _ _ _ g.records h.records;
      written = extends_on _ _ _ g.written h.written;
      members = extends_on _ _ _ g.members h.members;
      completed = extends_on _ _ _ g.completed h.completed;
      ended = extends_on _ _ _ g.ended h.ended;
      hidden = extends_on _ _ _ g.hidden h.hidden;
    }

-- a state with these lists
grown : (s s' : State) → Extends s.declarations s'.declarations → Extends s.uses s'.uses → Extends s.records s'.records → Extends s.written s'.written → Extends s.members s'.members → Extends s.completed s'.completed → Extends s.ended s'.ended → Extends s.hidden s'.hidden → Grows s s'
grown s s' d u r w m c e h =
    record { declarations = d; uses = u; records = r; written = w; members = m; completed = c; ended = e; hidden = h }

kept : {A : Type 0} (xs : List A) → Extends xs xs
kept xs = extends_itself xs xs refl

more : {A : Type 0} (xs ys : List A) → Extends xs (xs ++ ys)
more xs ys = (ys, refl)

if_grows : (b : Bool) (s x y : State) → Grows s x → Grows s y → Grows s (if b then x else y)
if_grows true s x y g h = g
if_grows false s x y g h = h

failed_grows : (c : IllCause) (i : ℕ) (s : State) → Grows s (failed c i s)
failed_grows c i s = same s _ refl refl refl refl refl refl refl refl

used_grows : (u : Use) (s : State) → Grows s (used u s)
used_grows u s = grown s _ (kept _) (more _ (u ∷ [])) (kept _) (kept _) (kept _) (kept _) (kept _) (kept _)

looked_grows : (sp : Space) (i : ℕ) (k : Option ℕ) (s : State) → Grows s (looked_up sp i k s)
looked_grows sp i k s = used_grows _ s

-- ---- declarations

declared_grows : (d : Declaration) (s : State) → Grows s (record s { declarations = s.declarations ++ d ∷ [] })
declared_grows d s = grown s _ (more _ (d ∷ [])) (kept _) (kept _) (kept _) (kept _) (kept _) (kept _) (kept _)

declare_grows : (t : Source) (d : Declaration) (s : State) → Grows s (declare t d s)
declare_grows t d s = if_grows (list_any (clashes (entry t d)) (map (entry t) s.declarations)) s _ _ (failed_grows _ _ s) (declared_grows d s)

plain_grows : (t : Source) (sp : Space) (k : Kind) (i : ℕ) (c : CType) (s : State) → Grows s (declare_plain t sp k i c s)
plain_grows t sp k i c s = declare_grows t (declaration sp k linkage.None i c s) s

seen_grows : (l : Linkage) (i : ℕ) (k : Option ℕ) (s : State) → Grows s (linkage_seen l i k s)
seen_grows l i k s = if_grows (is_internal l && not (has_word w.Static s)) s _ _ (looked_grows _ _ _ s) (itself s)

as_grows : (t : Source) (k : Option ℕ) (what : Kind) (i : ℕ) (c : CType) (s : State) → Grows s (declare_as t k what i c s)
as_grows t k what i c s =
    let l = linkage_for t (declaration_at s k) what s in
    followed s (linkage_seen l i k s) _ (seen_grows l i k s) (declare_grows t (declaration space.Ordinary what l i c s) (linkage_seen l i k s))

named_grows : (t : Source) (i : Option ℕ) (c : CType) (s : State) → Grows s (declare_named t i c s)
named_grows t None c s = itself s
named_grows t (Some i) c s = as_grows t (meaning_here t space.Ordinary i s) (kind_of c s) i c s

parameter_grows : (t : Source) (i : Option ℕ) (c : CType) (s : State) → Grows s (declare_parameter t i c s)
parameter_grows t None c s = itself s
parameter_grows t (Some i) c s =
    followed s (used (IsParameter i) s) _ (used_grows _ s) (plain_grows t space.Ordinary kind.Object i (decayed c) (used (IsParameter i) s))

-- ---- specifiers

specified_grows : (x : Option SpecWord) (i : ℕ) (s : State) → Grows s (specified x i s)
specified_grows None i s = itself s
specified_grows (Some x) i s =
    if_grows (may_follow s.pending.specifiers x) s _ _ (same s _ refl refl refl refl refl refl refl refl) (failed_grows _ i s)

announced_grows : (x : Option SpecWord) (s : State) → Grows s (announced x s)
announced_grows None s = itself s
announced_grows (Some w.Struct) s = same s _ refl refl refl refl refl refl refl refl
announced_grows (Some w.Union) s = same s _ refl refl refl refl refl refl refl refl
announced_grows (Some w.Enum) s = same s _ refl refl refl refl refl refl refl refl
announced_grows (Some _) s = itself s

read_grows : (m : NonTerm) (t : Source) (i : ℕ) (s : State) → Grows s (read_in m t i s)
read_grows n.Mod t i s = specified_grows _ i s
read_grows n.Specs0 t i s = specified_grows _ i s
read_grows n.SpecsB t i s = specified_grows _ i s
read_grows n.Rec t i s = announced_grows _ s
read_grows n.Enum t i s = announced_grows _ s
read_grows _ t i s = itself s

passed_grows : (t : Source) (m : NonTerm) (i : ℕ) (s : State) → Grows s (passed t m i s)
passed_grows t m i s = followed s (read_in m t i s) _ (read_grows m t i s) (same _ _ refl refl refl refl refl refl refl refl)

words_grow : (s : State) → Grows s (words_ended s)
words_grow s = if_grows (not (is_permitted s.pending.specifiers.basic)) s _ _ (same s _ refl refl refl refl refl refl refl refl) (itself s)

based_grows : (c : CType) (s : State) → Grows s (based c s)
based_grows c s = same s _ refl refl refl refl refl refl refl refl

named_type_grows : (k : Option ℕ) (d : Option Declaration) (i : ℕ) (s : State) → Grows s (named_type k d i s)
named_type_grows k None i s = failed_grows _ i s
named_type_grows k (Some d) i s =
    followed s (looked_up space.Ordinary i k s) _ (looked_grows _ i k s) (based_grows d.type (looked_up space.Ordinary i k s))

atomic_grows : (cs : List CType) (s : State) → Grows s (atomic_type cs s)
atomic_grows [] s = based_grows _ s
atomic_grows (c ∷ cs) s = same s _ refl refl refl refl refl refl refl refl

by_grows : (x : Option SpecWord) (s : State) → Grows s (specified_by x s)
by_grows None s = itself s
by_grows (Some w.Atomic) s = atomic_grows s.values s
by_grows (Some _) s = itself s

specifier_grows : (t : Source) (i : ℕ) (s : State) → Grows s (type_specifier t i s)
specifier_grows t i s =
    let k = meaning_here t space.Ordinary i s in
    if_grows (is_identifier t i) s _ _ (named_type_grows k (declaration_at s k) i s) (by_grows (specifier_at t i) s)

-- ---- tags

record_grows : (i : ℕ) (s : State) → Grows s (with_record i s)
record_grows i s = if_grows (is_record_kind s.keyword) s _ _ (grown s _ (kept _) (kept _) (more _ ((record { token = i; is_union = is_union_kind s.keyword }) ∷ [])) (kept _) (kept _) (kept _) (kept _) (kept _)) (itself s)

tag_grows : (t : Source) (i : ℕ) (c : CType) (s : State) → Grows s (declare_tag t i c s)
tag_grows t i c s =
    followed s (declare_plain t space.Tag s.keyword i c s) _ (plain_grows t space.Tag s.keyword i c s) (based_grows c _)

pub again_grows : (d : Option Declaration) (t : Source) (i : ℕ) (s : State) → Grows s (tag_again d t i s)
again_grows None t i s = followed s (with_record i s) _ (record_grows i s) (tag_grows t i (new_type s) (with_record i s))
again_grows (Some d) t i s = tag_grows t i d.type s

definition_grows : (t : Source) (i : ℕ) (s : State) → Grows s (tag_definition t i s)
definition_grows t i s =
    let first = token_or i (tag_here t i s) in
    let x = tag_alone t i s in
    let g : Grows x (filling (completing first x)) = grown x _ (kept _) (kept _) (kept _) (kept _) (kept _) (more _ (first ∷ [])) (kept _) (kept _) in
    if_grows (list_any (eqb first) s.completed) s _ _ (failed_grows _ i s) (followed s x _ (again_grows (tag_here t i s) t i s) g)

untagged_grows : (i : ℕ) (s : State) → Grows s (untagged i s)
untagged_grows i s =
    let x : State = record s { pending = record s.pending { base = Some (new_type s); is_untagged = is_record_kind s.keyword } } in
    followed s (with_record i x) _ (followed s x _ (same s x refl refl refl refl refl refl refl refl) (record_grows i x)) (same _ _ refl refl refl refl refl refl refl refl)

used_tag_grows : (k : Option ℕ) (d : Option Declaration) (t : Source) (i : ℕ) (s : State) → Grows s (used_tag k d t i s)
used_tag_grows k None t i s =
    followed s (looked_up space.Tag i None s) _ (looked_grows _ i None s) (again_grows None t i (looked_up space.Tag i None s))
used_tag_grows k (Some d) t i s =
    if_grows (repeats false d.kind s.keyword) s _ _ (followed s (looked_up space.Tag i k s) _ (looked_grows _ i k s) (based_grows d.type _)) (failed_grows _ i s)

-- ---- members

write_grows : (k : Option ℕ) (r : ℕ) (c : CType) (new : List Member) (s : State) → Grows s (write_unless k r c new s)
write_grows (Some i) r c new s = failed_grows _ i s
write_grows None r c new s = grown s _ (kept _) (kept _) (kept _) (more _ ((record { holder = r; type = c }) ∷ [])) (more _ new) (kept _) (kept _) (kept _)

member_grows : (t : Source) (r i : Option ℕ) (c : CType) (s : State) → Grows s (add_member t r i c s)
member_grows t None i c s = itself s
member_grows t (Some r) None c s = itself s
member_grows t (Some r) (Some i) c s = write_grows (least_token (repeated t s r (named_member r i c s ∷ []))) r c (named_member r i c s ∷ []) s

anonymous_grows : (t : Source) (r q : Option ℕ) (c : CType) (s : State) → Grows s (add_anonymous t r q c s)
anonymous_grows t None q c s = itself s
anonymous_grows t (Some r) None c s = itself s
anonymous_grows t (Some r) (Some q) c s = write_grows (least_token (repeated t s r (brought_in r q s))) r c (brought_in r q s) s

splice_grows : (t : Source) (s : State) → Grows s (splice t s)
splice_grows t s =
    let c = specified_type s.pending in
    if_grows s.pending.is_untagged s _ _ (anonymous_grows t s.filled (record_of c) c s) (itself s)

end_grows : (r : Option ℕ) (s : State) → Grows s (end_record r s)
end_grows None s = itself s
end_grows (Some r) s = grown s _ (kept _) (kept _) (kept _) (kept _) (kept _) (kept _) (more _ (r ∷ [])) (kept _)

-- ---- expressions and initialisers

push_grows : (c : CType) (s : State) → Grows s (push c s)
push_grows c s = same s _ refl refl refl refl refl refl refl refl

built_in_grows : (i : ℕ) (s : State) → Grows s (built_in i s)
built_in_grows i s = followed s (used (IsBuiltIn i) s) _ (used_grows _ s) (push_grows _ _)

denoting_grows : (called : Bool) (k : Option ℕ) (d : Option Declaration) (t : Source) (i : ℕ) (s : State) → Grows s (denoting called k d t i s)
denoting_grows called k None t i s = if_grows (called && is_built_in (text_at t i)) s _ _ (built_in_grows i s) (failed_grows _ i s)
denoting_grows called k (Some d) t i s =
    if_grows (is_value d.kind) s _ _ (followed s (looked_up space.Ordinary i k s) _ (looked_grows _ i k s) (push_grows d.type _)) (failed_grows _ i s)

identifier_grows : (called : Bool) (t : Source) (i : ℕ) (s : State) → Grows s (identifier called t i s)
identifier_grows called t i s =
    let k = meaning_here t space.Ordinary i s in
    if_grows (s.in_body && is_function_name (text_at t i)) s _ _ (built_in_grows i s) (denoting_grows called k (declaration_at s k) t i s)

selecting_grows : (x : Result Member IllCause) (i : ℕ) (s : State) → Grows s (selecting x i s)
selecting_grows (Err c) i s = failed_grows c i s
selecting_grows (Ok m) i s = grown s _ (kept _) (more _ (Selects i m.token ∷ [])) (kept _) (kept _) (kept _) (kept _) (kept _) (kept _)

designating_grows : (x : Result Member IllCause) (b : Braces) (i : ℕ) (s : State) → Grows s (designating x b i s)
designating_grows (Err c) b i s = failed_grows c i s
designating_grows (Ok m) b i s = grown s _ (kept _) (more _ (Selects i m.token ∷ [])) (kept _) (kept _) (kept _) (kept _) (kept _) (kept _)

designator_grows : (x : Target) (t : Source) (i : ℕ) (s : State) → Grows s (designator x t i s)
designator_grows (Whole c) t i s = itself s
designator_grows (Within b) t i s = designating_grows (dotted t s (name_at t i) (starts_from b)) b i s

initialiser_grows : (m : NonTerm) (s : State) → Grows s (initialiser m s)
initialiser_grows n.InitOpt s = same s _ refl refl refl refl refl refl refl refl
initialiser_grows _ s = same s _ refl refl refl refl refl refl refl refl

-- ---- scopes

entered_grows : (m : NonTerm) (s : State) → Grows s (entered_in m s)
entered_grows n.Sufs s = same s _ refl refl refl refl refl refl refl refl
entered_grows _ s = same s _ refl refl refl refl refl refl refl refl

body_grows : (k : Option ℕ) (s : State) → Grows s (body_within k s)
body_grows None s = failed_grows _ _ s
body_grows (Some k) s = same s _ refl refl refl refl refl refl refl refl

jump_grows : (k : Option ℕ) (i : ℕ) (s : State) → Grows s (jump_to k i s)
jump_grows None i s = failed_grows _ i s
jump_grows (Some k) i s = used_grows _ s

unless_grows : (s x : State) → Grows s x → Grows s (unless_failed s x)
unless_grows s x g = if_grows (is_some s.fault) s s x (itself s) g

pub jumps_grow : (t : Source) (is : List ℕ) (s : State) → Grows s (all_jumps t is s)
jumps_grow t [] s = itself s
jumps_grow t (i ∷ is) s =
    let k = meaning_here t space.Label i s in
    followed s (unless_failed s (jump_to k i s)) _ (unless_grows s _ (jump_grows k i s)) (jumps_grow t is (unless_failed s (jump_to k i s)))

ending_grows : (t : Source) (s : State) → Grows s (body_ended t s)
ending_grows t s = followed s (all_jumps t s.jumps s) _ (jumps_grow t s.jumps s) (same _ _ refl refl refl refl refl refl refl refl)

-- ---- actions, ends of nodes, and the walk

pub acted_grows : (t : Source) (m : NonTerm) (first : ℕ) (x : Action) (s : State) → Grows s (acted t m first x s)
acted_grows t m first a.Spec s = specifier_grows t first s
acted_grows t m first a.Declare s = named_grows t s.pending.name (declared_type s) s
acted_grows t m first a.Param s = parameter_grows t s.pending.name (declared_type s) s
acted_grows t m first a.Enumerator s = plain_grows t space.Ordinary kind.Enumerator first Arith s
acted_grows t m first a.TagDef s = definition_grows t s.last s
acted_grows t m first a.TagAlone s = again_grows (tag_here t s.last s) t s.last s
acted_grows t m first a.TagUse s =
    let k = meaning_here t space.Tag s.last s in
    used_tag_grows k (declaration_at s k) t s.last s
acted_grows t m first a.Anon s = untagged_grows (s.last + 1) s
acted_grows t m first a.EndRec s = end_grows s.filled s
acted_grows t m first a.Member s = member_grows t s.filled s.pending.name (declared_type s) s
acted_grows t m first a.Splice s = splice_grows t s
acted_grows t m first a.Enter s = entered_grows m s
acted_grows t m first a.Body s = body_grows s.pending.parameters s
acted_grows t m first a.EndBody s = ending_grows t s
acted_grows t m first a.Label s = plain_grows t space.Label kind.Label s.last Void s
acted_grows t m first a.Callee s = identifier_grows true t s.last s
acted_grows t m first a.Mention s = identifier_grows false t s.last s
acted_grows t m first a.Select s =
    selecting_grows (select t s (is_arrow (text_at t first)) (name_at t s.last) (operand s)) s.last s
acted_grows t m first a.OffMember s = selecting_grows (select t s false (name_at t s.last) (operand s)) s.last s
acted_grows t m first a.InitOf s = initialiser_grows m s
acted_grows t m first a.Desig s = designator_grows s.target t s.last s
acted_grows t m first a.Hidden s = grown s _ (kept _) (kept _) (kept _) (kept _) (kept _) (kept _) (kept _) (more _ (s.last ∷ []))
acted_grows t m first _ s = same s _ refl refl refl refl refl refl refl refl

ended_as_grows : (m : NonTerm) (children : Trees) (before s : State) → Grows s (ended_as m children before s)
ended_as_grows n.AssMore children before s =
    if_grows (is_empty children) s _ _ (itself s) (same s _ refl refl refl refl refl refl refl refl)
ended_as_grows n.SpecsB children before s = if_grows (is_empty children) s _ _ (words_grow s) (itself s)
ended_as_grows _ children before s = same s _ refl refl refl refl refl refl refl refl

pub ended_grows : (above m : NonTerm) (children : Trees) (before s : State) → Grows s (ended above m children before s)
ended_grows above m children before s =
    followed s (ended_as m children before s) _ (ended_as_grows m children before s) (same _ _ refl refl refl refl refl refl refl refl)

asked_grows : (asks : List Item) (s : State) → Grows s (asked asks s)
asked_grows [] s = itself s
asked_grows (Passed i ∷ asks) s = asked_grows asks s
asked_grows (Due x ∷ asks) s = asked_grows asks s
asked_grows (Asked i answer ∷ asks) s = followed s (used _ s) _ (used_grows _ s) (asked_grows asks (used _ s))

refused_grows : (r : Option ℕ) (s x : State) → Grows s x → Grows s (unless_refused r s x)
refused_grows None s x g = g
refused_grows (Some i) s x g = failed_grows _ i s

goes_on_grows : (s x : State) → Grows s x → Grows s (goes_on s x)
goes_on_grows s x g = unless_grows s _ (refused_grows s.refused s x g)

pub binding_grows : BindingGrows
binding_grows t m first none s = itself s
binding_grows t m first (token i next) s =
    followed s (goes_on s (passed t m i s)) _ (goes_on_grows s _ (passed_grows t m i s))
    (binding_grows t m (Some (unwrap_or first i)) next (goes_on s (passed t m i s)))
binding_grows t m first (action x next) s =
    let y = acted t m (unwrap_or first s.last) x s in
    followed s (goes_on s y) _ (goes_on_grows s y (acted_grows t m (unwrap_or first s.last) x s))
    (binding_grows t m first next (goes_on s y))
binding_grows t m first (node k asks children next) s =
    let below = walk t k None children (asked asks s) in
    let g : Grows s below = followed s (asked asks s) _ (asked_grows asks s) (binding_grows t k None children (asked asks s)) in
    let y = ended m k children s below in
    followed s (unless_failed s y) _ (unless_grows s y (followed s below y g (ended_grows m k children s below)))
    (binding_grows t m first next (unless_failed s y))

-- ---- faults

unless_keeps : (s x : State) (f : IllCause × ℕ) → s.fault ≡ Some f → (unless_failed s x).fault ≡ Some f
unless_keeps s x f h = by (s.fault) h ∙ h
  where
    by : (o : Option (IllCause × ℕ)) → o ≡ Some f → (if is_some o then s else x).fault ≡ s.fault
    by None e = cc
    by (Some g) e = refl

pub fault_stays : FaultStays
fault_stays t m first none s f h = h
fault_stays t m first (token i next) s f h =
    fault_stays t m (Some (unwrap_or first i)) next (goes_on s (passed t m i s)) f (unless_keeps s _ f h)
fault_stays t m first (action x next) s f h =
    fault_stays t m first next (goes_on s (acted t m (unwrap_or first s.last) x s)) f (unless_keeps s _ f h)
fault_stays t m first (node k asks children next) s f h =
    fault_stays t m first next (unless_failed s (ended m k children s (walk t k None children (asked asks s)))) f (unless_keeps s _ f h)

-- ---- scopes

front_of : {A : Type 0} (xs ys : List A) → take (length xs) (xs ++ ys) ≡ xs
front_of [] ys = refl
front_of (x ∷ xs) ys = ap (λ l. x ∷ l) (front_of xs ys)

pub scopes_are_told : ScopesAreTold
scopes_are_told t m first trees s =
    let x : Extends s.declarations (walk t m first trees s).declarations = (binding_grows t m first trees s).declarations in
    ap (λ ds. record { scopes = []; present = s.present; entries = map (entry t) ds })
    (ap (λ ds. take (length s.declarations) ds) x.1 ∙ front_of s.declarations x.0)
