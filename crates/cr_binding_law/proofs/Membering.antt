-- Actions on members read the same after a renaming.
use Rattle.std.specs.Prelude.{◌≡◌, ◌==◌, ℕ, suc, Bool, true, false, if◌then◌else◌, Option, Some, None, Result, Ok, Err, List, [], ◌∷◌, ◌++◌, map, ◌<◌, zero, length, slice_index_or, Contains}
use Rattle.std.specs.List.{find}
use Rattle.std.proofs.Common.{refl, sym, ◌∙◌, ap, subst, arith}
use Rattle.std.proofs.lemmas.List.Elements.{Contains-append_left, Contains-append_right}
use Rattle.cr_base.specs.declared.Name.{Name}
use Rattle.cr_base.specs.declared.cause.IllCause.{IllCause}
use Rattle.cr_types.specs.Types.{CType, Void, Arith, Mixed, Ptr, Arr, Fun, Rec}
use Rattle.cr_typing.specs.Initialisers.{starts_from}
use Rattle.cr_binding.specs.Source.{Source, name_at}
use Rattle.cr_binding.specs.State.{Member, Selects, Target, Whole, Within, State}
use Rattle.cr_binding.specs.Specifying.{specified_type, declared_type}
use Rattle.cr_binding.specs.Tags.{record_of}
use Rattle.cr_binding.specs.RecordMembers.{is_named, is_complete, or_no_member, members_of, member_in, select, repeated, least_token, write_unless, write, named_member, add_member, brought_in, add_anonymous, splice}
use Rattle.cr_binding.specs.Expressions.{operand, selecting, selection}
use Rattle.cr_binding.specs.Initialising.{dotted, designating, designator}
use Rattle.cr_binding.specs.ActionsStay.{IsRespelled}
use Rattle.cr_binding.specs.MembersStay.{AreDistinct}
use Rattle.cr_binding.specs.FreeUnits.{IsFreeUnit}
use Rattle.cr_binding.specs.BindingGrows.{Grows}
use Rattle.cr_binding.specs.BindingStays.{AddsAlike, AddsPending, BringsAlike, SelectsAlike, DesignatesAlike}
use Rattle.cr_binding.proofs.Selecting.{found_among}
use Rattle.cr_binding_law.specs.Renaming.{IsRenamed, AreEntities}
use Rattle.cr_binding_law.proofs.Growth.{last_there, still_there}
use Rattle.cr_binding_law.proofs.Renamed.{Laws, respelled}

no_least : (ms : List Member) → least_token ms ≡ None → ms ≡ []
no_least [] h = refl
no_least (m ∷ ms) h = cc

-- what a record brings into another one is held there
brought_holder : (r : ℕ) (ms : List Member) (m : Member) (k : ℕ) → k < length (map {A = Member} (λ m. record m { holder = r }) ms) → slice_index_or (map {A = Member} (λ m. record m { holder = r }) ms) k m ≡ m → m.holder ≡ r
brought_holder r [] m k h e = absurd (omega (arith, h))
brought_holder r (x ∷ ms) m zero h e = ap (λ (z : Member). z.holder) (sym e)
brought_holder r (x ∷ ms) m (suc k) h e = brought_holder r ms m k (omega (arith, h)) e

only_holder : (r : ℕ) (x m : Member) → x.holder ≡ r → Contains (x ∷ []) m → m.holder ≡ r
only_holder r x m held c = by c.0 c.1 c.2
  where
    by : (k : ℕ) → k < 1 → slice_index_or (x ∷ []) k m ≡ m → m.holder ≡ r
    by zero h e = ap (λ (z : Member). z.holder) (sym e) ∙ held
    by (suc k) h e = absurd (omega arith)

module _ (law : Laws) (class : ℕ → Bool) (old new : Name) (t u : Source) (ren : IsRenamed class old new t u) (end : State) (ents : AreEntities class t end) (free : IsFreeUnit class old new t end) (distinct : AreDistinct t end.members) where
  abbrev spelling : IsRespelled class new t u
  spelling = respelled law class old new t u ren end ents free

  -- ---- adding

  adds_alike : (r : ℕ) (c : CType) (more : List Member) (s : State) → ((m : Member) → Contains more m → m.holder ≡ r) → (write t r c more s).fault ≡ None → Grows (write t r c more s) end → AddsAlike t u s r more
  adds_alike r c more s held h g = by (least_token (repeated t s r more)) refl h g
    where
      by : (o : Option ℕ) → least_token (repeated t s r more) ≡ o → (write_unless o r c more s).fault ≡ None → Grows (write_unless o r c more s) end → AddsAlike t u s r more
      by (Some i) e h g = cc
      by None e h g = after ∙ sym before
        where
          before : repeated t s r more ≡ []
          before = no_least (repeated t s r more) e

          old_there : (n : Member) → Contains s.members n → Contains end.members n
          old_there n cn = still_there (s.members ++ more) end.members n g.members (Contains-append_left s.members more n cn)

          new_there : (m : Member) → Contains more m → Contains end.members m
          new_there m cm = still_there (s.members ++ more) end.members m g.members (Contains-append_right s.members more m cm)

          after : repeated u s r more ≡ []
          after =
              law.members class old new t u s r more spelling ren.spelled (λ m n cm cn hn cls name. free.members m n (new_there m cm) (old_there n cn) (held m cm ∙ sym hn) cls name)
              (λ m n cm cn hn cls name. free.members n m (old_there n cn) (new_there m cm) (hn ∙ sym (held m cm)) cls name) before

  pub member_alike : (r name : Option ℕ) (c : CType) (s : State) → (add_member t r name c s).fault ≡ None → Grows (add_member t r name c s) end → c ≡ declared_type s → AddsPending t u s r name
  member_alike None name c s h g e = tt
  member_alike (Some r) None c s h g e = tt
  member_alike (Some r) (Some i) c s h g e =
      subst (λ c. AddsAlike t u s r (named_member r i c s ∷ [])) e
      (adds_alike r c (named_member r i c s ∷ []) s (λ m cm. only_holder r (named_member r i c s) m refl cm) h g)

  anonymous_alike : (r q : Option ℕ) (c : CType) (s : State) → (add_anonymous t r q c s).fault ≡ None → Grows (add_anonymous t r q c s) end → BringsAlike t u s r q
  anonymous_alike None q c s h g = tt
  anonymous_alike (Some r) None c s h g = tt
  anonymous_alike (Some r) (Some q) c s h g =
      adds_alike r c (brought_in r q s) s (λ m cm. brought_holder r (members_of s q) m cm.0 cm.1 cm.2) h g

  pub splice_alike : (s : State) → (splice t s).fault ≡ None → Grows (splice t s) end → s.pending.is_untagged ≡ true → BringsAlike t u s s.filled (record_of (specified_type s.pending))
  splice_alike s h g e =
      let c = specified_type s.pending in
      let x = add_anonymous t s.filled (record_of c) c s in
      let k : splice t s ≡ x = ap (λ b. if b then x else s) e in
      anonymous_alike s.filled (record_of c) c s (ap (λ (z : State). z.fault) (sym k) ∙ h) (subst (λ z. Grows z end) k g)

  -- ---- selecting

  module _ (s : State) (more : Grows s end) (i : ℕ) (m : Member) (goes : Contains s.members m → class i ≡ class m.token) where
    member_there : (r : ℕ) → (b : Bool) → or_no_member (if b then find (is_named t (name_at t i)) (members_of s r) else None) ≡ Ok m → Contains s.members m
    member_there r false h = cc
    member_there r true h =
        (found_among (is_named t (name_at t i)) (λ n. n.holder == r) s.members m (was_found (find (is_named t (name_at t i)) (members_of s r)) h)).0
      where
        was_found : (o : Option Member) → or_no_member o ≡ Ok m → o ≡ Some m
        was_found None k = cc
        was_found (Some n) k = cc

    member_kept : (r : ℕ) → member_in t s r (name_at t i) ≡ Ok m → member_in u s r (name_at u i) ≡ member_in t s r (name_at t i)
    member_kept r h =
        law.selection class old new t u s r i m spelling ren.spelled (λ m n cm cn. distinct m n (still_there s.members end.members m more.members cm) (still_there s.members end.members n more.members cn))
        (λ m n cm cn. free.members m n (still_there s.members end.members m more.members cm) (still_there s.members end.members n more.members cn)) h (goes (member_there r (is_complete s r) h))
        ∙ sym h

    select_kept : (c : CType) (arrow : Bool) → select t s arrow (name_at t i) c ≡ Ok m → (other : Bool) → select u s other (name_at u i) c ≡ select t s other (name_at t i) c
    select_kept Void arrow h true = refl
    select_kept Void arrow h false = refl
    select_kept Arith arrow h true = refl
    select_kept Arith arrow h false = refl
    select_kept Mixed arrow h true = refl
    select_kept Mixed arrow h false = refl
    select_kept (Fun c) arrow h true = refl
    select_kept (Fun c) arrow h false = refl
    select_kept (Rec r) true h other = cc
    select_kept (Rec r) false h true = refl
    select_kept (Rec r) false h false = member_kept r h
    select_kept (Ptr (Rec r)) true h true = member_kept r h
    select_kept (Ptr (Rec r)) true h false = refl
    select_kept (Ptr (Rec r)) false h other = cc
    select_kept (Ptr Void) arrow h true = refl
    select_kept (Ptr Void) arrow h false = refl
    select_kept (Ptr Arith) arrow h true = refl
    select_kept (Ptr Arith) arrow h false = refl
    select_kept (Ptr Mixed) arrow h true = refl
    select_kept (Ptr Mixed) arrow h false = refl
    select_kept (Ptr (Ptr c)) arrow h true = refl
    select_kept (Ptr (Ptr c)) arrow h false = refl
    select_kept (Ptr (Arr c)) arrow h true = refl
    select_kept (Ptr (Arr c)) arrow h false = refl
    select_kept (Ptr (Fun c)) arrow h true = refl
    select_kept (Ptr (Fun c)) arrow h false = refl
    select_kept (Arr (Rec r)) true h true = member_kept r h
    select_kept (Arr (Rec r)) true h false = refl
    select_kept (Arr (Rec r)) false h other = cc
    select_kept (Arr Void) arrow h true = refl
    select_kept (Arr Void) arrow h false = refl
    select_kept (Arr Arith) arrow h true = refl
    select_kept (Arr Arith) arrow h false = refl
    select_kept (Arr Mixed) arrow h true = refl
    select_kept (Arr Mixed) arrow h false = refl
    select_kept (Arr (Ptr c)) arrow h true = refl
    select_kept (Arr (Ptr c)) arrow h false = refl
    select_kept (Arr (Arr c)) arrow h true = refl
    select_kept (Arr (Arr c)) arrow h false = refl
    select_kept (Arr (Fun c)) arrow h true = refl
    select_kept (Arr (Fun c)) arrow h false = refl

    dotted_kept : (c : Option CType) → dotted t s (name_at t i) c ≡ Ok m → dotted u s (name_at u i) c ≡ dotted t s (name_at t i) c
    dotted_kept None h = refl
    dotted_kept (Some (Rec r)) h = member_kept r h
    dotted_kept (Some Void) h = refl
    dotted_kept (Some Arith) h = refl
    dotted_kept (Some Mixed) h = refl
    dotted_kept (Some (Ptr c)) h = refl
    dotted_kept (Some (Arr c)) h = refl
    dotted_kept (Some (Fun c)) h = refl

  pub selects_alike : (arrow : Bool) (i : ℕ) (s : State) → Grows s end → (selection arrow t i s).fault ≡ None → Grows (selection arrow t i s) end → SelectsAlike t u s i
  selects_alike arrow i s more h g = by (select t s arrow (name_at t i) (operand s)) refl h g
    where
      by : (x : Result Member IllCause) → select t s arrow (name_at t i) (operand s) ≡ x → (selecting x i s).fault ≡ None → Grows (selecting x i s) end → SelectsAlike t u s i
      by (Err c) e h g = cc
      by (Ok m) e h g =
          select_kept s more i m (λ c. ents.uses (Selects i m.token) (last_there s.uses end.uses (Selects i m.token) g.uses) m (still_there s.members end.members m more.members c) refl) (operand s) arrow e

  pub designates_alike : (x : Target) (i : ℕ) (s : State) → Grows s end → (designator x t i s).fault ≡ None → Grows (designator x t i s) end → DesignatesAlike t u s x i
  designates_alike (Whole c) i s more h g = tt
  designates_alike (Within b) i s more h g = by (dotted t s (name_at t i) (starts_from b)) refl h g
    where
      by : (x : Result Member IllCause) → dotted t s (name_at t i) (starts_from b) ≡ x → (designating x b i s).fault ≡ None → Grows (designating x b i s) end → dotted u s (name_at u i) (starts_from b) ≡ dotted t s (name_at t i) (starts_from b)
      by (Err c) e h g = cc
      by (Ok m) e h g =
          dotted_kept s more i m (λ c. ents.uses (Selects i m.token) (last_there s.uses end.uses (Selects i m.token) g.uses) m (still_there s.members end.members m more.members c) refl) (starts_from b) e
