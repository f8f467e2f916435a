-- What one part of what is bound does to all of it.
use Rattle.std.proofs.Common.{◌≡◌, ℕ, Option, Some, None, refl, sym, ap, subst, ◌∙◌}
use Rattle.std.specs.Prelude.{option_map, IfSome}
use Rattle.cr_base.specs.declared.cause.IllCause.{IllCause}
use Rattle.cr_types.specs.declared.TypeNo.{TypeNo}
use Rattle.cr_types.specs.declared.RecNo.{RecNo}
use Rattle.cr_types.specs.Types.{CType, Void, Arith, Mixed, Fun, Table, Keeps, IsTypeNo, IsRecNo, type_at}
use Rattle.cr_binding.specs.Source.{Source}
use Rattle.cr_binding.specs.State.{State}
use Rattle.cr_records.specs.Kept.{IsOf as AreOf}
use Rattle.cr_records.specs.Records.{with_records}
use Rattle.cr_known.specs.Known.{Gathering}
use Rattle.cr_bound.specs.declared.saved.Saved.TheVariants as kept
use Rattle.cr_bound.specs.Saving.{SavedStay}
use Rattle.cr_names.specs.declared.fault.BindFault.{BindFault}
use Rattle.cr_names.specs.declared.fault.BindFault.TheVariants as fault
use Rattle.cr_names.specs.Kept.{KnownNames, IsOf}
use Rattle.cr_names.specs.Names as names
use Rattle.cr_names.specs.Names.{Refuses, with_names}
use Rattle.cr_bound.specs.declared.pending.Pending.{Pending}
use Rattle.cr_bound.specs.declared.bound.Basics.{Basics}
use Rattle.cr_bound.specs.declared.bound.Bound.{Bound}
use Rattle.cr_bound.specs.Kept.{with_pending, with_place, with_bound, Numbers, AreBasics, IsTyped, AreSpelled}
use Rattle.cr_bound.specs.Bound.{Any, Does, Moves, StaysTyped, FailsAny, Grows}

-- ---- types

pub keeps_both : (t u w : Table) → Keeps t u → Keeps u w → Keeps t w
keeps_both t u w a b = record {
  types = λ n h. (let p = a.types n h in let q = b.types n p.0 in (q.0, q.1 ∙ p.1, q.2 ∙ p.2));
  records = λ r h. (let p = a.records r h in let q = b.records r p.0 in (q.0, q.1 ∙ p.1));
}

-- ---- growing

module _ (t u : Table) (keeps : Keeps t u) where
  pub base_stays : (o : Option TypeNo) → IfSome o (IsTypeNo t) → IfSome o (IsTypeNo u)
  base_stays None h = tt
  base_stays (Some n) h = (keeps.types n h).0

  pub base_same : (o : Option TypeNo) → IfSome o (IsTypeNo t) → option_map (type_at u) o ≡ option_map (type_at t) o
  base_same None h = refl
  base_same (Some n) h = ap Some (keeps.types n h).2

  pub filled_stays : (o : Option RecNo) → IfSome o (IsRecNo t) → IfSome o (IsRecNo u)
  filled_stays None h = tt
  filled_stays (Some r) h = (keeps.records r h).0

-- the names and the records of what is bound stay, as types are added
module _ (t u : Table) (b : Bound) (keeps : Keeps t u) where
  numbers_stay : (n : TypeNo) (c : CType) → Numbers t n c → Numbers u n c
  numbers_stay n c h = (let k = keeps.types n h.0 in (k.0, k.2 ∙ h.1))

  pub basics_stay : (x : Basics) → AreBasics t x → AreBasics u x
  basics_stay x h = (numbers_stay x.void Void h.0, numbers_stay x.arith Arith h.1, numbers_stay x.mixed Mixed h.2, numbers_stay x.supplied (Fun Arith) h.3)

  pub pending_stays : (p : Pending) → IfSome p.base (IsTypeNo t) → (s : State) → with_pending u p s ≡ with_pending t p s
  pending_stays p h s = ap (λ o. record s { pending = record { specifiers = p.specifiers; last_basic = p.last_basic; base = o; is_untagged = p.is_untagged; name = p.name; parameters = p.parameters } }) (base_same t u keeps p.base h)

  pub grown : u.records ≡ t.records → IsTyped t b → IsOf u b.names × ((s : State) → with_names u b.names s ≡ with_names t b.names s)
      → AreOf u b.records × ((s : State) → with_records u b.records s ≡ with_records t b.records s) → Grows t u b
  grown same h n r = record {
    keeps = keeps;
    records = same;
    typed = record { names = n.0; records = r.0; base = base_stays t u keeps b.pending.base h.base; filled = filled_stays t u keeps b.place.filled h.filled; basics = basics_stay b.basics h.basics };
    same = λ s.
        n.1 (with_records u b.records (with_pending u b.pending (with_place b.place s)))
        ∙ ap (with_names t b.names) (r.1 (with_pending u b.pending (with_place b.place s)) ∙ ap (with_records t b.records) (pending_stays b.pending h.base (with_place b.place s)));
  }

-- ---- faults

pub refuses_on : (f : BindFault) (P Q : IllCause → ℕ → Type 0) → ((c : IllCause) (i : ℕ) → P c i → Q c i) → Refuses f P → Refuses f Q
refuses_on (fault.Ill c i) P Q more h = more c i h
refuses_on fault.OutOfMemory P Q more h = h

-- ---- names

-- what is below the names
abbrev pub rest : Bound → Table → State → State
rest b t s = with_records t b.records (with_pending t b.pending (with_place b.place s))

module _ (b : Bound) (y : KnownNames) where
  -- what is done to the names is this in all that is bound
  pub names_do_as : (t : Table) (P Q : Source → Type 0) (f g : Source → State → State) → ((source : Source) → Q source → P source)
      → ((source : Source) (s : State) → Q source → AreSpelled source b → g source (with_bound t b s) ≡ f source (with_bound t b s))
      → names.Does t P b.names f y → Does Q t b g t (record b { names = y })
  names_do_as t P Q f g on e d = record {
    state = λ source s q sound spelled. d.state source (rest b t s) (on source q) sound spelled.0 ∙ sym (e source s q spelled);
    spelled = λ source q h. (d.spelled source (on source q) h.0, h.1);
  }

  pub names_move_as : (f g : State → State) → ((t : Table) (s : State) → g (with_bound t b s) ≡ f (with_bound t b s)) → names.Moves b.names f y → Moves b g (record b { names = y })
  names_move_as f g e m t = names_do_as t names.Always Any (λ _ s. f s) (λ _ s. g s) (λ source q. tt) (λ source s q h. e t s) (m t)

  pub names_move : (f : State → State) → names.Moves b.names f y → Moves b f (record b { names = y })
  names_move f m = names_move_as f f (λ t s. refl) m

  pub names_typed : ((t : Table) → IsOf t b.names → IsOf t y) → StaysTyped b (record b { names = y })
  names_typed of t h = record { names = of t h.names; records = h.records; base = h.base; filled = h.filled; basics = h.basics }

  pub moves_typed : (f : State → State) → names.Moves b.names f y → StaysTyped b (record b { names = y })
  moves_typed f m = names_typed (λ t. (m t).typed)

module _ (b : Bound) (P Q : Source → Type 0) (f : Table → Source → State → State) (g : Source → State → State) (on : (source : Source) → Q source → P source) where
  pub names_fail_as : ((t : Table) (source : Source) (s : State) → IsTyped t b → Q source → AreSpelled source b → (g source (with_bound t b s)).fault ≡ (f t source (with_bound t b s)).fault)
      → (c : IllCause) (i : ℕ) → names.Fails P b.names f c i → FailsAny Q b g c i
  names_fail_as e c i h t typed source s q sound spelled = e t source s typed q spelled ∙ h t source (rest b t s) (on source q) sound spelled.0

  pub names_refuse_as : ((t : Table) (source : Source) (s : State) → IsTyped t b → Q source → AreSpelled source b → (g source (with_bound t b s)).fault ≡ (f t source (with_bound t b s)).fault)
      → (z : BindFault) → Refuses z (names.Fails P b.names f) → Refuses z (FailsAny Q b g)
  names_refuse_as e z = refuses_on z (names.Fails P b.names f) (FailsAny Q b g) (names_fail_as e)

-- types that stay with the same names
pub typed_at : (b : Bound) (y : KnownNames) → y ≡ b.names → StaysTyped b (record b { names = y })
typed_at b y e = names_typed b y (λ t h. subst (λ (x : KnownNames). IsOf t x) (sym e) h)

-- what was saved of a declaration stays as types are added
pub saved_stays : SavedStay
saved_stays t u kept.Nothing keeps h = (tt, refl)
saved_stays t u (kept.Gathering p) keeps h =
    (base_stays t u keeps p.base h, ap (λ o. Gathering (record { specifiers = p.specifiers; last_basic = p.last_basic; base = o; is_untagged = p.is_untagged; name = p.name; parameters = p.parameters })) (base_same t u keeps p.base h))
saved_stays t u (kept.Filling r) keeps h = (filled_stays t u keeps r h, refl)
