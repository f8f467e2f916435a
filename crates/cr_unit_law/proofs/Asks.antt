-- Each ask of a unit has the answer that is right in the state in which it is made. So the asks choose one alternative.
use Rattle.std.specs.Prelude.{◌≡◌, ℕ, Bool, true, false, List, [], ◌∷◌, ◌++◌, length, take, Contains}
use Rattle.std.proofs.Common.{refl, sym, ◌∙◌, ap, subst, inl, inr, arith}
use Rattle.std.proofs.lemmas.List.{append-nil}
use Rattle.std.proofs.lemmas.List.Elements.{Contains-append_left, Contains-append_right}
use Rattle.cr_grammar.specs.declared.symbols.Symbol.{Symbol}
use Rattle.cr_grammar.specs.Grammar.{Row}
use Rattle.cr_ll.specs.Guards.{Terminal, verdict, ask_at}
use Rattle.cr_ll.specs.declared.guards.Verdict.{Verdict}
use Rattle.cr_ll.specs.declared.guards.Verdict.TheVariants.{Holds, Fails, Asks}
use Rattle.cr_ll.specs.Derivation.{Item, Passed, Due, Asked, ChosenBy, Chosen}
use Rattle.cr_binding.specs.Source.{Source}
use Rattle.cr_binding.specs.State.{Use, WasAsked, State}
use Rattle.cr_binding.specs.Declaring.{used}
use Rattle.cr_binding.specs.Binding.{asked}
use Rattle.cr_binding.specs.BindingGrows.{Extends, Grows}
use Rattle.cr_binding.specs.WellFormed.{is_typedef_name, AreAnswered}
use Rattle.cr_binding.proofs.Growing.{followed, itself}

-- each of these asks has the answer
abbrev pub AllRight : (ℕ → Bool) → List Item → Type 0
AllRight answer [] = Unit {0}
AllRight answer (Passed i ∷ xs) = AllRight answer xs
AllRight answer (Due x ∷ xs) = AllRight answer xs
AllRight answer (Asked i b ∷ xs) = (b ≡ answer i) × AllRight answer xs

true_false : {P : Type 0} → true ≡ false → P
true_false e = cc

-- With right answers one alternative is chosen, by the same asks.
pub chosen_one : (answer : ℕ → Bool) (rs : List Row) (x y : Terminal) (i : ℕ) (asks others : List Item) (body other : List Symbol) → Chosen rs x y i asks body → Chosen rs x y i others other → AllRight answer asks → AllRight answer others → (asks ≡ others) × (body ≡ other)
chosen_one answer [] x y i asks others body other h k a b = absurd h
chosen_one answer (r ∷ rs) x y i asks others body other h k a b =
    by (verdict r.0 x y) h k (λ more most c d f g. chosen_one answer rs x y i more most body other c d f g)
  where
    by :
        (v : Verdict)
        → ChosenBy v r (λ more. Chosen rs x y i more body) i asks body
        → ChosenBy v r (λ more. Chosen rs x y i more other) i others other
        → ((more most : List Item) → Chosen rs x y i more body → Chosen rs x y i most other → AllRight answer more → AllRight answer most → (more ≡ most) × (body ≡ other))
        → (asks ≡ others) × (body ≡ other)
    by Holds h k next = (h.0 ∙ sym k.0, h.1 ∙ sym k.1)
    by Fails h k next = next asks others h k a b
    by (Asks ahead) (inl h) (inl k) next = (h.0 ∙ sym k.0, h.1 ∙ sym k.1)
    by (Asks ahead) (inl h) (inr k) next =
        true_false ((subst (AllRight answer) h.0 a).0 ∙ sym (subst (AllRight answer) k.1 b).0)
    by (Asks ahead) (inr h) (inl k) next =
        true_false ((subst (AllRight answer) k.0 b).0 ∙ sym (subst (AllRight answer) h.1 a).0)
    by (Asks ahead) (inr h) (inr k) next =
        let more = next h.0 k.0 h.2 k.2 (subst (AllRight answer) h.1 a).1 (subst (AllRight answer) k.1 b).1 in
        (h.1 ∙ ap (λ l. Asked (ask_at i ahead) false ∷ l) more.0 ∙ sym k.1, more.1)

-- ---- states

used_grows : (x : Use) (s : State) → Grows s (used x s)
used_grows x s =
    record {
      declarations = ([], sym (append-nil s.declarations));
      uses = (x ∷ [], refl);
      records = ([], sym (append-nil s.records));
      written = ([], sym (append-nil s.written));
      members = ([], sym (append-nil s.members));
      completed = ([], sym (append-nil s.completed));
      ended = ([], sym (append-nil s.ended));
      hidden = ([], sym (append-nil s.hidden));
    }

pub asked_grows : (asks : List Item) (s : State) → Grows s (asked asks s)
asked_grows [] s = itself s
asked_grows (Passed i ∷ asks) s = asked_grows asks s
asked_grows (Due x ∷ asks) s = asked_grows asks s
asked_grows (Asked i b ∷ asks) s =
    let x : Use = WasAsked i s.present (length s.declarations) b in
    followed s (used x s) (asked asks (used x s)) (used_grows x s) (asked_grows asks (used x s))

pub asked_fault : (asks : List Item) (s : State) → (asked asks s).fault ≡ s.fault
asked_fault [] s = refl
asked_fault (Passed i ∷ asks) s = asked_fault asks s
asked_fault (Due x ∷ asks) s = asked_fault asks s
asked_fault (Asked i b ∷ asks) s = asked_fault asks (used (WasAsked i s.present (length s.declarations) b) s)

last_there : {A : Type 0} (xs ys : List A) (x : A) → Extends (xs ++ x ∷ []) ys → Contains ys x
last_there xs ys x more =
    subst (λ l. Contains l x) (sym more.1) (Contains-append_left (xs ++ x ∷ []) more.0 x (Contains-append_right xs (x ∷ []) x (0, omega arith, refl)))

front_of : {A : Type 0} (xs ys : List A) → take (length xs) (xs ++ ys) ≡ xs
front_of [] ys = refl
front_of (x ∷ xs) ys = ap (λ l. x ∷ l) (front_of xs ys)

module _ (t : Source) where
  -- the answer that is right in a state
  abbrev pub right : State → ℕ → Bool
  right s i = is_typedef_name t s.present i s.declarations

  pub asks_are_right : (asks : List Item) (s end : State) → Grows (asked asks s) end → AreAnswered t end → AllRight (right s) asks
  asks_are_right [] s end g a = tt
  asks_are_right (Passed i ∷ asks) s end g a = asks_are_right asks s end g a
  asks_are_right (Due x ∷ asks) s end g a = asks_are_right asks s end g a
  asks_are_right (Asked i b ∷ asks) s end g a = (
    a i s.present (length s.declarations) b (last_there s.uses end.uses x grown.uses) ∙ ap (is_typedef_name t s.present i) then,
    asks_are_right asks (used x s) end g a,
  )
    where
      x : Use
      x = WasAsked i s.present (length s.declarations) b

      grown : Grows (used x s) end
      grown = followed (used x s) (asked asks (used x s)) end (asked_grows asks (used x s)) g

      then : take (length s.declarations) end.declarations ≡ s.declarations
      then = ap (take (length s.declarations)) grown.declarations.1 ∙ front_of s.declarations grown.declarations.0
