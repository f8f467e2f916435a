-- What one part of what is bound does to all of it.
use Rattle.std.proofs.Common.{◌≡◌, ℕ, Some, List, [], ◌∷◌, refl, sym, ap, subst, ◌∙◌, inl, inr}
use Rattle.std.specs.Prelude.{drop, Result, Ok, Err}
use Rattle.cr_base.specs.declared.cause.IllCause.{IllCause}
use Rattle.cr_base.specs.declared.token.Name.{Name}
use Rattle.cr_decl.specs.declared.SpecWord.TheVariants as word
use Rattle.cr_types.specs.declared.TypeNo.{TypeNo}
use Rattle.cr_types.specs.declared.Part.{Part}
use Rattle.cr_types.specs.declared.Ty.{Ty}
use Rattle.cr_types.specs.Types.{CType, Void, Table, Adds, IsTypeNo, Keeps, type_at}
use Rattle.cr_binding.specs.Source.{Source, name_at}
use Rattle.cr_binding.specs.State.{State, Selects, start}
use Rattle.cr_binding.specs.Declaring.{used}
use Rattle.cr_binding.specs.Specifying.{based, atomic_type, specified_by}
use Rattle.cr_binding.specs.Expressions.{push, operand}
use Rattle.cr_operands.specs.declared.fault.OperandFault.TheVariants as operand_fault
use Rattle.cr_binding.specs.Initialising.{last_type}
use Rattle.cr_names.specs.declared.fault.BindFault.{BindFault}
use Rattle.cr_names.specs.declared.fault.BindFault.TheVariants as fault
use Rattle.cr_names.specs.Names.{Refuses}
use Rattle.cr_bound.specs.declared.bound.Bound.{Bound}
use Rattle.cr_bound.specs.Kept.{with_bound, IsTyped}
use Rattle.cr_bound.specs.Bound as bound
use Rattle.cr_bound.specs.Bound.{Any, Leaves, Stays, type_by, at_start}
use Rattle.cr_records.specs.Kept.{RecordTable}
use Rattle.cr_operands.specs.declared.fault.OperandFault.{OperandFault}
use Rattle.cr_operands.specs.declared.operands.Operands.{Operands}
use Rattle.cr_operands.specs.Operands as operands
use Rattle.cr_operands.specs.Operands.{with_operands, aimed_at, seen, IsHeld, Grows, Same, DoesOver, StaysOver}
use Rattle.cr_operands.specs.Laws.{OperandsStay, GrowthsFollow}
use Rattle.cr_acting.specs.declared.binding.Binding.{Binding}
use Rattle.cr_acting.specs.Acting.{staying, aiming_at_last, pushing_type, specifying_operand}
use Rattle.cr_acting.specs.Binding.{state_of, IsWhole, IsReady, Change, Becomes, Leads, Fails, Does}

abbrev pub binding : Table → Bound → Operands → Binding
binding t b o = record { types = t; bound = b; operands = o }

pub keeps_self : (t : Table) → Keeps t t
keeps_self t = record { types = λ n h. (h, refl, refl); records = λ r h. (h, refl) }

-- ---- one change behind another, and a change by another name

pub becomes_then : (source : Source) (a b c : Binding) (f g : Change) → GrowthsFollow → Becomes source a f b → Becomes source b g c
    → Becomes source a (λ t s. g t (f t s)) c
becomes_then source a b c f g follow x y = record {
  state = y.state ∙ ap (g source) x.state;
  ready = y.ready;
  grows = follow a.types b.types c.types a.operands b.operands c.operands x.grows y.grows;
}

pub becomes_as : (source : Source) (a b : Binding) (f g : Change) → f source (state_of a) ≡ g source (state_of a) → Becomes source a f b → Becomes source a g b
becomes_as source a b f g e x = record { state = x.state ∙ e; ready = x.ready; grows = x.grows }

-- nothing is done
pub becomes_same : (source : Source) (a : Binding) → OperandsStay → IsReady source a → Becomes source a (λ t s. s) a
becomes_same source a stay ready =
    let x = stay a.types a.types a.operands (keeps_self a.types) ready.whole.held in
    record { state = refl; ready = ready; grows = x.0 }

-- ---- what is bound changes

module _ (source : Source) (t : Table) (b : Bound) (o : Operands) (ready : IsReady source (binding t b o)) (P : Source → Type 0) (f : Change) where
  pub by_bound : (u : Table) (nb : Bound) → OperandsStay → P source → bound.Does P t b f u nb → Keeps t u → IsTyped u nb
      → Becomes source (binding t b o) f (binding u nb o)
  by_bound u nb stay p does keeps typed =
      let x = stay t u o keeps ready.whole.held in
      record {
        state = ap (with_bound u nb) (x.1 start) ∙ does.state source (with_operands t o start) p refl ready.spelled;
        ready = record { spelled = does.spelled source p ready.spelled; whole = record { typed = typed; held = x.0.held } };
        grows = x.0;
      }

  pub by_bound_alone : (nb : Bound) → OperandsStay → P source → bound.Does P t b f t nb → IsTyped t nb
      → Becomes source (binding t b o) f (binding t nb o)
  by_bound_alone nb stay p does typed = by_bound t nb stay p does (keeps_self t) typed

  pub bound_refuses : (e : BindFault) → P source → Refuses e (bound.Fails P t b f) → Refuses e (Fails source (binding t b o) f)
  bound_refuses (fault.Ill c i) p h = h source (with_operands t o start) p refl ready.spelled
  bound_refuses fault.OutOfMemory p h = h

-- ---- operands change

module _ (source : Source) (t : Table) (b : Bound) (o : Operands) (ready : IsReady source (binding t b o)) (f : State → State) where
  pub by_operands : (u : Table) (p : Operands) → Stays b → u.records ≡ t.records → Grows t o u p → operands.Does t o f u p
      → Becomes source (binding t b o) (λ _. f) (binding u b p)
  by_operands u p stays records grows does =
      let x = stays t u grows.types records ready.whole.typed in
      record {
        state = ap (with_operands u p) (x.same start) ∙ does (with_bound t b start);
        ready = record { spelled = ready.spelled; whole = record { typed = x.typed; held = grows.held } };
        grows = grows;
      }

  pub by_operands_alone : (p : Operands) → Grows t o t p → operands.Does t o f t p
      → Becomes source (binding t b o) (λ _. f) (binding t b p)
  by_operands_alone p grows does = record {
    state = does (with_bound t b start);
    ready = record { spelled = ready.spelled; whole = record { typed = ready.whole.typed; held = grows.held } };
    grows = grows;
  }

  pub by_operands_over : (p : Operands) (x : RecordTable) → x ≡ b.records → Grows t o t p → DoesOver t x o f p
      → Becomes source (binding t b o) (λ _. f) (binding t b p)
  by_operands_over p x same grows does = record {
    state = subst (λ y. DoesOver t y o f p) same does (state_of (binding t b o));
    ready = record { spelled = ready.spelled; whole = record { typed = ready.whole.typed; held = grows.held } };
    grows = grows;
  }

-- ---- both change

module _ (source : Source) (t : Table) (b : Bound) (o : Operands) (ready : IsReady source (binding t b o)) where
  -- an identifier, whose type is an operand
  pub identified : (P : Source → Type 0) (f : Change) (nb : Bound) (p : Operands) (n : TypeNo) → P source
      → Leaves P t b f t nb (push (type_at t n)) → IsTyped t nb → Grows t o t p → operands.Does t o (push (type_at t n)) t p
      → Becomes source (binding t b o) f (binding t nb p)
  identified P f nb p n is does typed grows pushed = record {
    state = pushed (with_bound t nb start) ∙ does.state source (with_operands t o start) is refl ready.spelled;
    ready = record { spelled = does.spelled source is ready.spelled; whole = record { typed = typed; held = grows.held } };
    grows = grows;
  }

  -- the type of a declarator is an operand
  pub type_pushed : (parts : List Part) (u : Table) (n : TypeNo) (p : Operands) → OperandsStay → GrowthsFollow → bound.Grows t u b → Keeps t u
      → ((s : State) → type_at u n ≡ type_by parts (with_bound t b s)) → (IsHeld u o → Grows u o u p) → (IsHeld u o → operands.Does u o (push (type_at u n)) u p)
      → Becomes source (binding t b o) (pushing_type parts) (binding u b p)
  type_pushed parts u n p stay follow grown keeps meant grows does =
      let x = stay t u o keeps ready.whole.held in
      let g = grows x.0.held in
      record {
        state =
            does x.0.held (with_bound u b start)
            ∙ ap (λ s. push (type_at u n) (with_operands u o s)) (grown.same start)
            ∙ ap (λ s. push (type_at u n) (with_bound t b s)) (x.1 start)
            ∙ ap (λ c. push c (state_of (binding t b o))) (meant (with_operands t o start));
        ready = record { spelled = ready.spelled; whole = record { typed = grown.typed; held = g.held } };
        grows = follow t u u o o p x.0 g;
      }

  -- the type of the last operand is specified
  pub operand_specified : (nb : Bound) (p : Operands) (n : TypeNo) → operands.Numbers t n (operand (state_of (binding t b o)))
      → bound.Does Any t b (λ _. based (type_at t n)) t nb → IsTyped t nb → Grows t o t p → operands.Does t o (operands.changing (drop 1)) t p
      → Becomes source (binding t b o) (λ _. specifying_operand) (binding t nb p)
  operand_specified nb p n meant does typed grows dropped = record {
    state =
        dropped (with_bound t nb start)
        ∙ ap (operands.changing (drop 1)) (does.state source (with_operands t o start) tt refl ready.spelled)
        ∙ ap (λ c. operands.changing (drop 1) (based c (state_of (binding t b o)))) meant.1;
    ready = record { spelled = does.spelled source tt ready.spelled; whole = record { typed = typed; held = grows.held } };
    grows = grows;
  }

  -- a name at a token is found: over the records that are kept
  pub found : (f : operands.Naming) (g : ℕ → State → State) (i : ℕ) (name : Name) (p : Operands) (x : RecordTable) → Grows t o t p → x ≡ b.records
      → name_at source i ≡ name → operands.Finds x name f g (seen t x o) (seen t x p)
      → f source i (state_of (binding t b o)) ≡ g i (state_of (binding t b p))
  found f g i name p x grows same named finds =
      subst (λ y. operands.Finds y name f g (seen t y o) (seen t y p)) same finds source i (state_of (binding t b o)) named ready.spelled.1

  -- a member is selected: the operands change, and then it is noted
  pub selected : (f : operands.Naming) (k i : ℕ) (name : Name) (nb : Bound) (p : Operands) (x : RecordTable) → x ≡ b.records
      → name_at source i ≡ name → operands.Finds x name f (operands.selects k) (seen t x o) (seen t x p)
      → bound.Does Any t b (λ _. used (Selects i k)) t nb → IsTyped t nb → Grows t o t p
      → Becomes source (binding t b o) (λ w. f w i) (binding t nb p)
  selected f k i name nb p x same named finds does typed grows = record {
    state =
        does.state source (with_operands t p start) tt refl ready.spelled
        ∙ sym (found f (operands.selects k) i name p x grows same named finds);
    ready = record { spelled = does.spelled source tt ready.spelled; whole = record { typed = typed; held = grows.held } };
    grows = grows;
  }

  pub not_selected : (f : operands.Naming) (c : IllCause) (i : ℕ) (name : Name) (e : OperandFault) (x : RecordTable) → e ≡ operand_fault.Ill c → x ≡ b.records
      → name_at source i ≡ name → operands.Refuses x name f (seen t x o) e → Fails source (binding t b o) (λ w. f w i) c i
  not_selected f c i name e x is same named h =
      ap (λ (s : State). s.fault)
      (subst (λ y. operands.Refuses y name f (seen t y o) (operand_fault.Ill c)) same (subst (operands.Refuses x name f (seen t x o)) is h)
      source i (state_of (binding t b o)) named ready.spelled.1)

-- ---- faults

pub refuses_as : (source : Source) (a : Binding) (f g : Change) (e : BindFault) → f source (state_of a) ≡ g source (state_of a)
    → Refuses e (Fails source a f) → Refuses e (Fails source a g)
refuses_as source a f g (fault.Ill c i) same h = ap (λ (s : State). s.fault) (sym same) ∙ h
refuses_as source a f g fault.OutOfMemory same h = h

-- the same over any types
pub any_refuses : (source : Source) (t : Table) (b : Bound) (o : Operands) → IsReady source (binding t b o) → (P : Source → Type 0) (f : Change) (e : BindFault)
    → P source → Refuses e (bound.FailsAny P b f) → Refuses e (Fails source (binding t b o) f)
any_refuses source t b o ready P f (fault.Ill c i) p h = h t ready.whole.typed source (with_operands t o start) p refl ready.spelled
any_refuses source t b o ready P f fault.OutOfMemory p h = h

-- what does g behind a change of operands does f, where that is the same
pub does_from : (source : Source) (a b c : Binding) (f g : Change) (r : Result (Unit {0}) BindFault) → GrowthsFollow
    → Grows a.types a.operands b.types b.operands → f source (state_of a) ≡ g source (state_of b) → Does source b g c r → Does source a f c r
does_from source a b c f g (Ok x) follow grows same d = record {
  state = d.state ∙ sym same;
  ready = d.ready;
  grows = follow a.types b.types c.types a.operands b.operands c.operands grows d.grows;
}
does_from source a b c f g (Err e) follow grows same d = refused e d
  where
    refused : (e : BindFault) → Refuses e (Fails source b g) → Refuses e (Fails source a f)
    refused (fault.Ill k i) h = ap (λ (s : State). s.fault) same ∙ h
    refused fault.OutOfMemory h = h

-- ---- whatever the tokens are

pub leads_same : (a : Binding) (f : Change) → OperandsStay → IsWhole a → ((source : Source) → state_of a ≡ f source (state_of a)) → Leads a f a
leads_same a f stay whole same = record {
  state = λ source h. same source;
  spelled = λ source h. h;
  whole = whole;
  grows = (stay a.types a.types a.operands (keeps_self a.types) whole.held).0;
}

pub leads_as : (a b : Binding) (f g : Change) → ((source : Source) → f source (state_of a) ≡ g source (state_of a)) → Leads a f b → Leads a g b
leads_as a b f g same x = record { state = λ source h. x.state source h ∙ same source; spelled = x.spelled; whole = x.whole; grows = x.grows }

module _ (t : Table) (b : Bound) (o : Operands) (whole : IsWhole (binding t b o)) (f : State → State) where
  pub leads_by_bound : (nb : Bound) → OperandsStay → bound.Does Any t b (λ _. f) t nb → IsTyped t nb → Leads (binding t b o) (λ _. f) (binding t nb o)
  leads_by_bound nb stay does typed = record {
    state = λ source h. does.state source (with_operands t o start) tt refl h;
    spelled = λ source h. does.spelled source tt h;
    whole = record { typed = typed; held = whole.held };
    grows = (stay t t o (keeps_self t) whole.held).0;
  }

  pub leads_by_operands : (u : Table) (p : Operands) → Stays b → u.records ≡ t.records → Grows t o u p → operands.Does t o f u p
      → Leads (binding t b o) (λ _. f) (binding u b p)
  leads_by_operands u p stays records grows does =
      let x = stays t u grows.types records whole.typed in
      record {
        state = λ source h. ap (with_operands u p) (x.same start) ∙ does (with_bound t b start);
        spelled = λ source h. h;
        whole = record { typed = x.typed; held = grows.held };
        grows = grows;
      }

  pub leads_by_operands_alone : (p : Operands) → Grows t o t p → operands.Does t o f t p → Leads (binding t b o) (λ _. f) (binding t b p)
  leads_by_operands_alone p grows does = record {
    state = λ source h. does (with_bound t b start);
    spelled = λ source h. h;
    whole = record { typed = whole.typed; held = grows.held };
    grows = grows;
  }

pub leads_then : (a b c : Binding) (f g : Change) → GrowthsFollow → Leads a f b → Leads b g c → Leads a (λ t s. g t (f t s)) c
leads_then a b c f g follow x y = record {
  state = λ source h. y.state source (x.spelled source h) ∙ ap (g source) (x.state source h);
  spelled = λ source h. y.spelled source (x.spelled source h);
  whole = y.whole;
  grows = follow a.types b.types c.types a.operands b.operands c.operands x.grows y.grows;
}

pub does_as : (source : Source) (a c : Binding) (f g : Change) (r : Result (Unit {0}) BindFault) → f source (state_of a) ≡ g source (state_of a)
    → Does source a f c r → Does source a g c r
does_as source a c f g (Ok x) same d = becomes_as source a c f g same d
does_as source a c f g (Err e) same d = refuses_as source a f g e same d

-- ---- whatever the tokens are, with these

pub becomes_of : (source : Source) (a b : Binding) (f : Change) → IsReady source a → Leads a f b → Becomes source a f b
becomes_of source a b f ready x = record {
  state = x.state source ready.spelled;
  ready = record { spelled = x.spelled source ready.spelled; whole = x.whole };
  grows = x.grows;
}

-- types are added
pub leads_grown : (t u : Table) (b : Bound) (o : Operands) → Stays b → OperandsStay → Keeps t u → u.records ≡ t.records → IsWhole (binding t b o)
    → Leads (binding t b o) staying (binding u b o)
leads_grown t u b o stays stay keeps records whole =
    let x = stays t u keeps records whole.typed in
    let y = stay t u o keeps whole.held in
    record {
      state = λ source h. ap (with_operands u o) (x.same start) ∙ y.1 (with_bound t b start);
      spelled = λ source h. h;
      whole = record { typed = x.typed; held = y.0.held };
      grows = y.0;
    }

-- `_Atomic ( )` specifies the type of the last operand
atomic_at : (s : State) (cs : List CType) → specifying_operand (record s { values = cs }) ≡ atomic_type cs (record s { values = cs })
atomic_at s [] = refl
atomic_at s (c ∷ cs) = refl

pub atomic_same : (s : State) → specifying_operand s ≡ specified_by (Some word.Atomic) s
atomic_same s = atomic_at s s.values

-- ---- what is declared last, and the start

pub aimed_at_last : (source : Source) (a m : Binding) (n : TypeNo) (p : Operands) → GrowthsFollow → IsReady source a → Leads a staying m
    → IsTypeNo m.types n → type_at m.types n ≡ last_type (state_of a).declarations
    → ((t : Table) → operands.Does t m.operands (aimed_at (type_at t n)) t p) → ((t : Table) → IsHeld t m.operands → IsTypeNo t n → Grows t m.operands t p)
    → Becomes source a (λ _. aiming_at_last) (binding m.types m.bound p)
aimed_at_last source a m n p follow ready leads given meant does grows =
    let x = becomes_of source a m staying ready leads in
    becomes_as source a (binding m.types m.bound p) (λ _. aimed_at (type_at m.types n)) (λ _. aiming_at_last) (ap (λ c. aimed_at c (state_of a)) meant)
    (becomes_then source a m (binding m.types m.bound p) staying (λ _. aimed_at (type_at m.types n)) follow x
    (by_operands_alone source m.types m.bound m.operands x.ready (aimed_at (type_at m.types n)) p (grows m.types x.ready.whole.held given) (does m.types)))

pub begun : (t u : Table) (b : Bound) (o : Operands) → Stays b → Keeps t u → u.records ≡ t.records → IsTyped t b
    → ((s : State) → with_bound t b s ≡ at_start s) → ((s : State) → with_operands u o s ≡ aimed_at Void (operands.with_values [] s))
    → state_of (binding u b o) ≡ start
begun t u b o stays keeps records typed none no_operands =
    no_operands (with_bound u b start)
    ∙ ap (λ s. aimed_at Void (operands.with_values [] s)) ((stays t u keeps records typed).same start ∙ none start)

-- a type that is added adds no record
pub same_records : (t u : Table) (ty : Ty) → Adds t ty u → u.records ≡ t.records
same_records t u ty (inl x) = ap (λ (z : Table). z.records) x.1
same_records t u ty (inr x) = ap (λ (z : Table). z.records) x.1
