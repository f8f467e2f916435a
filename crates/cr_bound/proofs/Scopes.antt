-- What scopes and bodies do to all that is bound.
use Rattle.std.proofs.Common.{◌≡◌, ℕ, Bool, true, false, Option, Some, None, List, [], refl, sym, ap, subst, ◌∙◌}
use Rattle.std.specs.Prelude.{unwrap_or, option_map, IfSome}
use Rattle.cr_base.specs.declared.Kind.TheVariants as kind
use Rattle.cr_base.specs.declared.token.Name.{Name}
use Rattle.cr_base.specs.declared.token.Tok.{Tok}
use Rattle.cr_grammar.specs.declared.symbols.NonTerm.{NonTerm}
use Rattle.cr_scope.specs.declared.Decl.{Decl}
use Rattle.cr_scope.specs.declared.Linkage.TheVariants as linkage
use Rattle.cr_scope.specs.declared.Space.TheVariants as space
use Rattle.cr_types.specs.Types.{Table, IsTypeNo, IsRecNo}
use Rattle.cr_binding.specs.Declaring.{declare, declaration}
use Rattle.cr_binding.specs.Source.{Source}
use Rattle.cr_binding.specs.State.{State}
use Rattle.cr_binding.specs.Scoping.{entered, entered_in, left, next_scope, or_next, all_jumps, body_within, body_ended}
use Rattle.cr_records.specs.Records.{with_records}
use Rattle.cr_names.specs.declared.fault.BindFault.{BindFault}
use Rattle.cr_names.specs.Kept.{KnownNames, IsOf}
use Rattle.cr_names.specs.Names as names
use Rattle.cr_names.specs.Names.{HasTokens, IsNamed, Refuses, with_names, inside, declared_as}
use Rattle.cr_bound.specs.declared.pending.Pending.{Pending}
use Rattle.cr_bound.specs.declared.place.Place.{Place}
use Rattle.cr_bound.specs.declared.bound.Bound.{Bound}
use Rattle.cr_bound.specs.Kept.{number, kind_by, with_pending, with_place, with_bound, IsTyped}
use Rattle.cr_bound.specs.Bound.{DoesAny, Moves, StaysTyped, FailsAny}
use Rattle.cr_bound.specs.Scoping.{entering, entering_body, labelling}
use Rattle.cr_bound.proofs.Lenses.{names_do_as, names_refuse_as}

-- ---- entering

or_next_is : (o : Option ℕ) (k : ℕ) (s : State) → k ≡ next_scope s → Some (unwrap_or o k) ≡ or_next o s
or_next_is None k s e = ap Some e
or_next_is (Some n) k s e = refl

module _ (b : Bound) (y : KnownNames) (m : names.Moves b.names entered y) where
  abbrev with_parameters : Pending → Option ℕ → Pending
  with_parameters p k = record p { parameters = k }

  pub suffix_entered : (node : NonTerm) (r : Bool) (k : Option ℕ) → ((s : State) → entered_in node s ≡ entering r s) → r ≡ true → k ≡ Some (unwrap_or b.pending.parameters y.declared.scopes)
      → Moves b (entered_in node) (record b { names = y; pending = record b.pending { parameters = k } })
  suffix_entered node r k is yes_ e t = record {
    state = λ source s p sound spelled.
        (m t).state source (with_records t b.records (with_pending t (record b.pending { parameters = k }) (with_place b.place s))) tt sound spelled.0
        ∙ ap (λ o. entered (with_names t b.names (with_records t b.records (with_pending t (record b.pending { parameters = o }) (with_place b.place s)))))
        (e ∙ or_next_is b.pending.parameters y.declared.scopes (with_bound t b s)
        (ap (λ z. z.scopes) ((m t).state source (with_records t b.records (with_pending t b.pending (with_place b.place s))) tt sound spelled.0)))
        ∙ sym (is (with_bound t b s) ∙ ap (λ z. entering z (with_bound t b s)) yes_);
    spelled = λ source p h. ((m t).spelled source tt h.0, h.1);
  }

  pub block_entered : (node : NonTerm) (r : Bool) → ((s : State) → entered_in node s ≡ entering r s) → r ≡ false → Moves b (entered_in node) (record b { names = y })
  block_entered node r is no_ t = record {
    state = λ source s p sound spelled.
        (m t).state source (with_records t b.records (with_pending t b.pending (with_place b.place s))) tt sound spelled.0
        ∙ sym (is (with_bound t b s) ∙ ap (λ z. entering z (with_bound t b s)) no_);
    spelled = λ source p h. ((m t).spelled source tt h.0, h.1);
  }

  pub suffix_typed : (k : Option ℕ) → StaysTyped b (record b { names = y; pending = record b.pending { parameters = k } })
  suffix_typed k t h = record { names = (m t).typed h.names; records = h.records; base = h.base; filled = h.filled; basics = h.basics }

-- ---- bodies

-- a body begins or ends: it has no jumps
body_placed : (p q : Place) (v : Bool) → q.last ≡ p.last → q.in_body ≡ v → q.jumps.items ≡ [] → q.refused ≡ p.refused → q.keyword ≡ p.keyword → q.filled ≡ p.filled
    → (s : State) → with_place q s ≡ record (with_place p s) { in_body = v; jumps = [] }
body_placed p q v l b j r k f s = λ i. record s {
  in_body = b i;
  jumps = j i;
  last = l i;
  refused = r i;
  keyword = kind_by (k i);
  filled = option_map number (f i);
}

module _ (b : Bound) (q : Place) (last : q.last ≡ b.place.last) (none : q.jumps.items ≡ []) (refused : q.refused ≡ b.place.refused) (keyword : q.keyword ≡ b.place.keyword) (filled : q.filled ≡ b.place.filled) where
  abbrev at_place : Table → Place → State → State
  at_place t p s = with_records t b.records (with_pending t b.pending (with_place p s))

  pub body_entered : (y : KnownNames) (k : ℕ) → b.pending.parameters ≡ Some k → names.Moves b.names (inside k) y → q.in_body ≡ true → Moves b entering_body (record b { names = y; place = q })
  body_entered y k is m inn t = record {
    state = λ source s p sound spelled.
        (m t).state source (at_place t q s) tt sound spelled.0
        ∙ ap (λ z. inside k (with_names t b.names (with_records t b.records (with_pending t b.pending z)))) (body_placed b.place q true last inn none refused keyword filled s)
        ∙ ap (λ o. body_within o (with_bound t b s)) (sym is);
    spelled = λ source p h. ((m t).spelled source tt h.0, h.1);
  }

  pub body_left : (mid y : KnownNames) (js : List ℕ) (tokens : List Tok) → js ≡ b.place.jumps.items → ((t : Table) → names.Does t (HasTokens tokens) b.names (λ source. all_jumps source js) mid)
      → names.Moves mid left y → q.in_body ≡ false → DoesAny (HasTokens tokens) b body_ended (record b { names = y; place = q })
  body_left mid y js tokens is d m out t typed = record {
    state = λ source s p sound spelled.
        (m t).state source (at_place t q s) tt sound ((d t).spelled source p spelled.0)
        ∙ ap (λ z. left (with_names t mid (with_records t b.records (with_pending t b.pending z)))) (body_placed b.place q false last out none refused keyword filled s)
        ∙ ap (λ z. record (left z) { in_body = false; jumps = [] }) ((d t).state source (at_place t b.place s) p sound spelled.0 ∙ ap (λ l. all_jumps source l (with_bound t b s)) is);
    spelled = λ source p h. ((m t).spelled source tt ((d t).spelled source p h.0), h.1);
  }

  pub body_typed : (y : KnownNames) → ((t : Table) → IsOf t b.names → IsOf t y) → StaysTyped b (record b { names = y; place = q })
  body_typed y of t h = record { names = of t h.names; records = h.records; base = h.base; filled = subst (λ o. IfSome o (IsRecNo t)) (sym filled) h.filled; basics = h.basics }

-- a jump without a label is a fault of the body's end
pub body_fails : (b : Bound) (js : List ℕ) (tokens : List Tok) → js ≡ b.place.jumps.items → (z : BindFault)
    → Refuses z (names.Fails (HasTokens tokens) b.names (λ t source. all_jumps source js)) → Refuses z (FailsAny (HasTokens tokens) b body_ended)
body_fails b js tokens is z =
    names_refuse_as b (HasTokens tokens) (HasTokens tokens) (λ t source. all_jumps source js) body_ended (λ source q. q)
    (λ t source s typed q h. ap (λ l. (all_jumps source l (with_bound t b s)).fault) (sym is)) z

-- ---- labels

module _ (b : Bound) (tokens : List Tok) (name : Name) (on : (t : Source) → HasTokens tokens t → IsNamed b.place.last name t) where
  abbrev label_here : Decl
  label_here = record { space = space.Label; name = name; token = b.place.last; kind = kind.Label; linkage = linkage.None; note = 0 }

  label_is : (t : Table) → IsTyped t b → (source : Source) (s : State) → labelling source (with_bound t b s) ≡ declared_as label_here b.basics.void t source (with_bound t b s)
  label_is t typed source s = ap (λ c. declare source (declaration space.Label kind.Label linkage.None b.place.last c (with_bound t b s)) (with_bound t b s)) (sym typed.basics.0.1)

  pub label_declared : (y : KnownNames) → ((t : Table) → IsTypeNo t b.basics.void → names.Does t (IsNamed b.place.last name) b.names (declared_as label_here b.basics.void t) y)
      → DoesAny (HasTokens tokens) b labelling (record b { names = y })
  label_declared y d t typed =
      names_do_as b y t (IsNamed b.place.last name) (HasTokens tokens) (declared_as label_here b.basics.void t) labelling on (λ source s q h. label_is t typed source s) (d t typed.basics.0.0)

  pub label_fails : (z : BindFault) → Refuses z (names.Fails (IsNamed b.place.last name) b.names (declared_as label_here b.basics.void)) → Refuses z (FailsAny (HasTokens tokens) b labelling)
  label_fails = names_refuse_as b (IsNamed b.place.last name) (HasTokens tokens) (declared_as label_here b.basics.void) labelling on (λ t source s typed q h. ap (λ z. z.fault) (label_is t typed source s))
