-- The steps of a tree, from the start.
use Rattle.std.proofs.Common.{◌≡◌, ℕ, Bool, true, false, ◌&&◌, Option, Some, None, List, [], ◌∷◌, ◌++◌, refl, sym, ap, subst, ◌∙◌, append_assoc}
use Rattle.std.specs.Prelude.{if◌then◌else◌, unwrap_or, is_some, length, drop}
use Rattle.std.proofs.lemmas.List.{append-nil}
use Rattle.cr_base.specs.declared.cause.IllCause.{IllCause}
use Rattle.cr_grammar.specs.declared.symbols.NonTerm.{NonTerm}
use Rattle.cr_grammar.specs.declared.symbols.NonTerm.TheVariants as n
use Rattle.cr_grammar.specs.declared.symbols.Action.{Action}
use Rattle.cr_grammar.specs.declared.symbols.Action.TheVariants as a
use Rattle.cr_ll.specs.Derivation.{Item, Passed, Due, Asked, Trees, none, token, action, node}
use Rattle.cr_types.specs.declared.Part.TheVariants as part
use Rattle.cr_decl.specs.declared.SpecWord.{SpecWord}
use Rattle.cr_decl.specs.declared.SpecWord.TheVariants as w
use Rattle.cr_decl.specs.Specifiers.{may_follow}
use Rattle.cr_binding.specs.Source.{Source}
use Rattle.cr_binding.specs.State.{Use, WasAsked, State, start}
use Rattle.cr_binding.specs.Specifying.{specifier_at, specified, announced, read_in, is_declarator, derivations}
use Rattle.cr_binding.specs.Initialising.{leaves, item_within, StringValue, Value}
use Rattle.cr_binding.specs.Declaring.{used}
use Rattle.cr_binding.specs.Expressions.{operand}
use Rattle.cr_binding.specs.Scoping.{unless_failed}
use Rattle.cr_binding.specs.Actions.{passed, acted}
use Rattle.cr_binding.specs.Binding.{asked, goes_on, unless_refused, ended, is_empty, walk, bound}
use Rattle.cr_binding.specs.Steps.{Step, Opens, Passes, Acts, Closes, steps}
use Rattle.cr_known.specs.Shapes.{Leaves, NoToken, OneToken, Tokens, Shape, leaves_of, behind, no_shape, shape_of}
use Rattle.cr_known.specs.Known.{unclosed, acted_by, saved_for, Frame, Known, known_first, with_token, with_action, with_node, known_step, all_known}
use Rattle.cr_known.specs.Laws.{AreSound, AreSoundSteps}
use Rattle.cr_known.proofs.Acting.{un, by_bool, acts_by_shapes, one_string}
use Rattle.cr_known.proofs.Ending.{ends_by_saved}

-- ---- shapes of rows, one behind another

abbrev pub after : Shape → Shape → Shape
after x y = record { parts = x.parts ++ y.parts; leaves = behind x.leaves y.leaves }

behind_none : (x : Leaves) → behind x NoToken ≡ x
behind_none NoToken = refl
behind_none (OneToken i) = refl
behind_none Tokens = refl

behind_all : (x y z : Leaves) → behind (behind x y) z ≡ behind x (behind y z)
behind_all NoToken y z = refl
behind_all (OneToken i) NoToken z = refl
behind_all (OneToken i) (OneToken j) NoToken = refl
behind_all (OneToken i) (OneToken j) (OneToken k) = refl
behind_all (OneToken i) (OneToken j) Tokens = refl
behind_all (OneToken i) Tokens z = refl
behind_all Tokens y z = refl

pub after_none : (x : Shape) → after x no_shape ≡ x
after_none x = λ i. record { parts = append-nil x.parts i; leaves = behind_none x.leaves i }

pub after_all : (x y z : Shape) → after (after x y) z ≡ after x (after y z)
after_all x y z = λ i. record { parts = append_assoc x.parts y.parts z.parts i; leaves = behind_all x.leaves y.leaves z.leaves i }

leaves_behind : (xs ys : List ℕ) → leaves_of (xs ++ ys) ≡ behind (leaves_of xs) (leaves_of ys)
leaves_behind [] ys = refl
leaves_behind (i ∷ []) [] = refl
leaves_behind (i ∷ []) (j ∷ []) = refl
leaves_behind (i ∷ []) (j ∷ k ∷ ys) = refl
leaves_behind (i ∷ j ∷ xs) ys = refl

-- a token, an action, a node before a row
pub token_before : (x : Shape) (i : ℕ) (next : Trees) → after (with_token i x) (shape_of next) ≡ after x (shape_of (token i next))
token_before x i next =
    λ j. record { parts = x.parts ++ derivations next; leaves = (behind_all x.leaves (OneToken i) (leaves_of (leaves next)) ∙ ap (behind x.leaves) (sym (leaves_behind (i ∷ []) (leaves next)))) j }

pub action_before : (x : Shape) (y : Action) (next : Trees) → after (with_action y x) (shape_of next) ≡ after x (shape_of (action y next))
action_before x a.Pointer next = λ j. record { parts = append_assoc x.parts (part.Pointer ∷ []) (derivations next) j; leaves = behind x.leaves (leaves_of (leaves next)) }
action_before x a.Array next = λ j. record { parts = append_assoc x.parts (part.Array ∷ []) (derivations next) j; leaves = behind x.leaves (leaves_of (leaves next)) }
action_before x a.Leave next = λ j. record { parts = append_assoc x.parts (part.Function ∷ []) (derivations next) j; leaves = behind x.leaves (leaves_of (leaves next)) }
action_before x _ next = refl

pub node_before : (x : Shape) (m : NonTerm) (asks : List Item) (children next : Trees) → after (with_node m (shape_of children) x) (shape_of next) ≡ after x (shape_of (node m asks children next))
node_before x m asks children next =
    λ j. record {
      parts = append_assoc x.parts (if is_declarator m then derivations children else []) (derivations next) j;
      leaves = (behind_all x.leaves (leaves_of (leaves children)) (leaves_of (leaves next)) ∙ ap (behind x.leaves) (sym (leaves_behind (leaves children) (leaves next)))) j;
    }

-- ---- tokens, and what is done on condition

module _ (tree : Trees) where
  reads_word : (x : Option SpecWord) (i : ℕ) (s : State) → un tree (specified x i s) ≡ specified x i (un tree s)
  reads_word None i s = refl
  reads_word (Some x) i s = by_bool tree (may_follow s.pending.specifiers x) _ _ _ _ refl refl

  announces : (x : Option SpecWord) (s : State) → un tree (announced x s) ≡ announced x (un tree s)
  announces None s = refl
  announces (Some w.Struct) s = refl
  announces (Some w.Union) s = refl
  announces (Some w.Enum) s = refl
  announces (Some _) s = refl

  reads : (m : NonTerm) (t : Source) (i : ℕ) (s : State) → un tree (read_in m t i s) ≡ read_in m t i (un tree s)
  reads n.Mod t i s = reads_word (specifier_at t i) i s
  reads n.Specs0 t i s = reads_word (specifier_at t i) i s
  reads n.SpecsB t i s = reads_word (specifier_at t i) i s
  reads n.Rec t i s = announces (specifier_at t i) s
  reads n.Enum t i s = announces (specifier_at t i) s
  reads _ t i s = refl

  pub passes : (t : Source) (m : NonTerm) (i : ℕ) (s : State) → un tree (passed t m i s) ≡ passed t m i (un tree s)
  passes t m i s = ap (λ (z : State). record z { last = i }) (reads m t i s)

-- nothing is done behind a fault, with these trees or those
goes_by : (tree : Trees) (f : Option (IllCause × ℕ)) (r : Option ℕ) (s x y : State) → un tree x ≡ y
    → un tree (if is_some f then s else unless_refused r s x) ≡ (if is_some f then un tree s else unless_refused r (un tree s) y)
goes_by tree (Some f) r s x y e = refl
goes_by tree None (Some i) s x y e = refl
goes_by tree None None s x y e = e

pub goes : (tree : Trees) (s x y : State) → un tree x ≡ y → un tree (goes_on s x) ≡ goes_on (un tree s) y
goes tree s x y e = goes_by tree s.fault s.refused s x y e

-- what leaves the trees alone with any trees leaves them
closed_by : (s x : State) → un s.closed x ≡ x → x.closed ≡ s.closed
closed_by s x e = sym (ap (λ (z : State). z.closed) e)

passed_closed : (t : Source) (m : NonTerm) (i : ℕ) (s : State) → (goes_on s (passed t m i s)).closed ≡ s.closed
passed_closed t m i s = closed_by s (goes_on s (passed t m i s)) (goes s.closed s (passed t m i s) (passed t m i s) (passes s.closed t m i s))

acted_same : (t : Source) (m : NonTerm) (first : ℕ) (x : Action) (s : State) → acted_by t m first x (shape_of s.closed) s ≡ acted t m first x s
acted_same t m first a.Item s =
    ap (λ b. record s { target = item_within s (if b then StringValue else Value (operand s)) s.target; values = drop 1 s.values }) (sym (one_string none t (leaves s.closed)))
acted_same t m first _ s = refl

acted_closed : (t : Source) (m : NonTerm) (first : ℕ) (x : Action) (s : State) → (goes_on s (acted t m first x s)).closed ≡ s.closed
acted_closed t m first x s =
    closed_by s (goes_on s (acted t m first x s))
    (goes s.closed s (acted t m first x s) (acted t m first x s) (acts_by_shapes s.closed t m first x s ∙ acted_same t m first x s))

pub asks_closed : (asks : List Item) (s : State) → unclosed (asked asks s) ≡ asked asks (unclosed s)
asks_closed [] s = refl
asks_closed (Asked i b ∷ asks) s = asks_closed asks _
asks_closed (Passed i ∷ asks) s = asks_closed asks s
asks_closed (Due x ∷ asks) s = asks_closed asks s

pub asks_keep : (asks : List Item) (s : State) → (asked asks s).closed ≡ s.closed
asks_keep [] s = refl
asks_keep (Asked i b ∷ asks) s = asks_keep asks _
asks_keep (Passed i ∷ asks) s = asks_keep asks s
asks_keep (Due x ∷ asks) s = asks_keep asks s

saves_same : (m : NonTerm) (s : State) → saved_for m (unclosed s) ≡ saved_for m s
saves_same n.Members s = refl
saves_same n.Param s = refl
saves_same n.TypeName s = refl
saves_same n.RecTail s = refl
saves_same n.EnumTail s = refl
saves_same n.Braces s = refl
saves_same n.InitOpt s = refl
saves_same n.CastTail s = refl
saves_same n.SizeLit s = refl
saves_same _ s = refl

uses_save : (m : NonTerm) (u : Use) (s : State) → saved_for m (used u s) ≡ saved_for m s
uses_save n.Members u s = refl
uses_save n.Param u s = refl
uses_save n.TypeName u s = refl
uses_save n.RecTail u s = refl
uses_save n.EnumTail u s = refl
uses_save n.Braces u s = refl
uses_save n.InitOpt u s = refl
uses_save n.CastTail u s = refl
uses_save n.SizeLit u s = refl
uses_save _ u s = refl

-- an ask changes nothing that is saved
pub asks_save : (m : NonTerm) (asks : List Item) (s : State) → saved_for m (asked asks s) ≡ saved_for m s
asks_save m [] s = refl
asks_save m (Asked i b ∷ asks) s = asks_save m asks _ ∙ uses_save m (WasAsked i s.present (length s.declarations) b) s
asks_save m (Passed i ∷ asks) s = asks_save m asks s
asks_save m (Due x ∷ asks) s = asks_save m asks s

asks_values : (asks : List Item) (s : State) → (asked asks s).values ≡ s.values
asks_values [] s = refl
asks_values (Asked i b ∷ asks) s = asks_values asks _
asks_values (Passed i ∷ asks) s = asks_values asks s
asks_values (Due x ∷ asks) s = asks_values asks s

-- ---- a row of trees

pub known_append : (t : Source) (xs ys : List Step) (k : Known) → all_known t (xs ++ ys) k ≡ all_known t ys (all_known t xs k)
known_append t [] ys k = refl
known_append t (x ∷ xs) ys k = known_append t xs ys (known_step t x k)

-- the first token of a row, where none was met before
abbrev pub first_after : Option ℕ → Trees → Option ℕ
first_after first none = first
first_after first (token i next) = first_after (Some (unwrap_or first i)) next
first_after first (action x next) = first_after first next
first_after first (node m asks children next) = first_after first next

-- what is kept in a node, below other ones, where a state is bound
abbrev pub kept : NonTerm → Option ℕ → Shape → Bool → List Frame → State → Known
kept m first sh childless above s =
    record { node = m; first = first; shape = sh; childless = childless; above = above; closed = shape_of s.closed; state = unclosed s }

pass_kept : (t : Source) (i : ℕ) (m : NonTerm) (first : Option ℕ) (sh : Shape) (b : Bool) (above : List Frame) (s : State)
    → known_step t (Passes i) (kept m first sh b above s) ≡ kept m (Some (unwrap_or first i)) (with_token i sh) false above (goes_on s (passed t m i s))
pass_kept t i m first sh b above s = λ j. record {
  node = m;
  first = Some (unwrap_or first i);
  shape = with_token i sh;
  childless = false;
  above = above;
  closed = shape_of (sym (passed_closed t m i s) j);
  state = sym (goes none s (passed t m i s) (passed t m i (unclosed s)) (passes none t m i s)) j;
}

act_kept : (t : Source) (x : Action) (m : NonTerm) (first : Option ℕ) (sh : Shape) (b : Bool) (above : List Frame) (s : State)
    → known_step t (Acts x) (kept m first sh b above s) ≡ kept m first (with_action x sh) false above (goes_on s (acted t m (unwrap_or first s.last) x s))
act_kept t x m first sh b above s =
    let y : State = acted t m (unwrap_or first s.last) x s in λ j. record {
      node = m;
      first = first;
      shape = with_action x sh;
      childless = false;
      above = above;
      closed = shape_of (sym (acted_closed t m (unwrap_or first s.last) x s) j);
      state = sym (goes none s y (acted_by t m (unwrap_or first s.last) x (shape_of s.closed) (unclosed s)) (acts_by_shapes none t m (unwrap_or first s.last) x s)) j;
    }

open_kept : (t : Source) (k : NonTerm) (asks : List Item) (m : NonTerm) (first : Option ℕ) (sh : Shape) (b : Bool) (above : List Frame) (s : State)
    → known_step t (Opens k asks) (kept m first sh b above s)
    ≡ kept k None no_shape true ((record { node = m; first = first; shape = sh; saved = saved_for k s; values = s.values }) ∷ above) (asked asks s)
open_kept t k asks m first sh b above s = λ j. record {
  node = k;
  first = None;
  shape = no_shape;
  childless = true;
  above = (record { node = m; first = first; shape = sh; saved = (asks_save k asks (unclosed s) ∙ saves_same k s) j; values = asks_values asks (unclosed s) j }) ∷ above;
  closed = shape_of (sym (asks_keep asks s) j);
  state = sym (asks_closed asks s) j;
}

unless_sound : (f : Option (IllCause × ℕ)) (s x : State) → f ≡ None → (if is_some f then s else x) ≡ x
unless_sound f s x e = ap (λ g. if is_some g then s else x) e

close_kept : (t : Source) (k : NonTerm) (children : Trees) (m : NonTerm) (first inner : Option ℕ) (sh : Shape) (above : List Frame) (s u : State) → s.fault ≡ None
    → known_step t (Closes children)
    (kept k inner (shape_of children) (is_empty children) ((record { node = m; first = first; shape = sh; saved = saved_for k s; values = s.values }) ∷ above) u)
    ≡ kept m first (with_node k (shape_of children) sh) false above (unless_failed s (ended m k children s u))
close_kept t k children m first inner sh above s u sound =
    (λ j. record {
      node = m;
      first = first;
      shape = with_node k (shape_of children) sh;
      childless = false;
      above = above;
      closed = shape_of children;
      state = sym (ends_by_saved m k children s u) j;
    })
    ∙ ap (kept m first (with_node k (shape_of children) sh) false above) (sym (unless_sound s.fault s (ended m k children s u) sound))

and_false : (b : Bool) → false ≡ (b && false)
and_false true = refl
and_false false = refl

and_true : (b : Bool) → b ≡ (b && true)
and_true true = refl
and_true false = refl

pub row : (t : Source) (c : Trees) (m : NonTerm) (first : Option ℕ) (sh : Shape) (b : Bool) (above : List Frame) (s : State) → AreSound t m first c s
    → all_known t (steps c) (kept m first sh b above s) ≡ kept m (first_after first c) (after sh (shape_of c)) (b && is_empty c) above (walk t m first c s)
row t none m first sh b above s sound = λ j. kept m first (sym (after_none sh) j) (and_true b j) above s
row t (token i next) m first sh b above s sound =
    ap (all_known t (steps next)) (pass_kept t i m first sh b above s)
    ∙ row t next m (Some (unwrap_or first i)) (with_token i sh) false above (goes_on s (passed t m i s)) sound
    ∙ (λ j. kept m (first_after first (token i next)) (token_before sh i next j) (and_false b j) above (walk t m first (token i next) s))
row t (action x next) m first sh b above s sound =
    ap (all_known t (steps next)) (act_kept t x m first sh b above s)
    ∙ row t next m first (with_action x sh) false above (goes_on s (acted t m (unwrap_or first s.last) x s)) sound
    ∙ (λ j. kept m (first_after first (action x next)) (action_before sh x next j) (and_false b j) above (walk t m first (action x next) s))
row t (node k asks children next) m first sh b above s sound =
    let f : Frame = record { node = m; first = first; shape = sh; saved = saved_for k s; values = s.values } in
    let u : State = walk t k None children (asked asks s) in
    let v : State = unless_failed s (ended m k children s u) in
    ap (all_known t (steps children ++ Closes children ∷ steps next)) (open_kept t k asks m first sh b above s)
    ∙ known_append t (steps children) (Closes children ∷ steps next) (kept k None no_shape true (f ∷ above) (asked asks s))
    ∙ ap (all_known t (Closes children ∷ steps next)) (row t children k None no_shape true (f ∷ above) (asked asks s) sound.1)
    ∙ ap (all_known t (steps next)) (close_kept t k children m first (first_after None children) sh above s u sound.0)
    ∙ row t next m first (with_node k (shape_of children) sh) false above v sound.2
    ∙ (λ j. kept m (first_after first next) (node_before sh k asks children next j) (and_false b j) above (walk t m first next v))

pub known_is_bound : (t : Source) (tree : Trees) → AreSound t n.Unit None tree start → (all_known t (steps tree) known_first).state ≡ unclosed (bound t tree)
known_is_bound t tree sound = ap (λ (k : Known). k.state) (row t tree n.Unit None no_shape true [] start sound)

-- ---- the same by the steps

sound_append : (t : Source) (xs ys : List Step) (k : Known) → AreSoundSteps t (xs ++ ys) k → AreSoundSteps t xs k × AreSoundSteps t ys (all_known t xs k)
sound_append t [] ys k h = (tt, h)
sound_append t (Opens m asks ∷ xs) ys k h = (let r = sound_append t xs ys (known_step t (Opens m asks) k) h.1 in ((h.0, r.0), r.1))
sound_append t (Passes i ∷ xs) ys k h = sound_append t xs ys (known_step t (Passes i) k) h
sound_append t (Acts x ∷ xs) ys k h = sound_append t xs ys (known_step t (Acts x) k) h
sound_append t (Closes children ∷ xs) ys k h = sound_append t xs ys (known_step t (Closes children) k) h

pub sound_row : (t : Source) (c : Trees) (m : NonTerm) (first : Option ℕ) (sh : Shape) (b : Bool) (above : List Frame) (s : State)
    → AreSoundSteps t (steps c) (kept m first sh b above s) → AreSound t m first c s
sound_row t none m first sh b above s h = tt
sound_row t (token i next) m first sh b above s h =
    sound_row t next m (Some (unwrap_or first i)) (with_token i sh) false above (goes_on s (passed t m i s))
    (subst (AreSoundSteps t (steps next)) (pass_kept t i m first sh b above s) h)
sound_row t (action x next) m first sh b above s h =
    sound_row t next m first (with_action x sh) false above (goes_on s (acted t m (unwrap_or first s.last) x s))
    (subst (AreSoundSteps t (steps next)) (act_kept t x m first sh b above s) h)
sound_row t (node k asks children next) m first sh b above s h =
    let f : Frame = record { node = m; first = first; shape = sh; saved = saved_for k s; values = s.values } in
    let u : State = walk t k None children (asked asks s) in
    let opened = subst (AreSoundSteps t (steps children ++ Closes children ∷ steps next)) (open_kept t k asks m first sh b above s) h.1 in
    let parts = sound_append t (steps children) (Closes children ∷ steps next) (kept k None no_shape true (f ∷ above) (asked asks s)) opened in
    let inner : AreSound t k None children (asked asks s) = sound_row t children k None no_shape true (f ∷ above) (asked asks s) parts.0 in
    let closed = subst (AreSoundSteps t (Closes children ∷ steps next)) (row t children k None no_shape true (f ∷ above) (asked asks s) inner) parts.1 in
    let rest = subst (AreSoundSteps t (steps next)) (close_kept t k children m first (first_after None children) sh above s u h.0) closed in
    (h.0, inner, sound_row t next m first (with_node k (shape_of children) sh) false above (unless_failed s (ended m k children s u)) rest)

pub sound_steps_bind : (t : Source) (tree : Trees) → AreSoundSteps t (steps tree) known_first → (all_known t (steps tree) known_first).state ≡ unclosed (bound t tree)
sound_steps_bind t tree h = known_is_bound t tree (sound_row t tree n.Unit None no_shape true [] start h)
