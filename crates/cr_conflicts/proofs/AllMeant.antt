-- What is added for a unit is its conflicts.
use Rattle.std.proofs.Common.{◌≡◌, ◌⊎◌, inl, inr, ℕ, Option, Some, List, length, map, refl, ap, subst, ◌∙◌}
use Rattle.cr_base.specs.declared.token.Name.{Name}
use Rattle.cr_base.specs.declared.token.Place.{Place}
use Rattle.cr_base.specs.declared.key.Key.{Key}
use Rattle.cr_scope.specs.Declarations.{Flat}
use Rattle.cr_capture.specs.declared.Mention.{Mention}
use Rattle.cr_capture.specs.declared.Mention.TheVariants as mention
use Rattle.cr_capture.specs.Conflicts.{Pair, IsConflict}
use Rattle.cr_facts.specs.FactOrder.{Facts}
use Rattle.cr_facts.specs.declared.fact.Fact.{Fact}
use Rattle.cr_facts.specs.declared.fact.Fact.TheVariants as fact
use Rattle.cr_binding.specs.Source.{Source}
use Rattle.cr_binding.specs.State.{Declaration, State}
use Rattle.cr_binding.specs.Keys.{declaration_key}
use Rattle.cr_binding.specs.UnitConflicts.{place_at, Mentions, declaration_of}
use Rattle.cr_declared.specs.declared.rows.Row.{Row}
use Rattle.cr_declared.specs.declared.rows.UseRow.{UseRow}
use Rattle.cr_declared.specs.declared.rows.Slot.{Slot}
use Rattle.cr_declared.specs.Rows.{entry_of, AreRows, AreApart, AreFormed}
use Rattle.cr_groups.specs.declared.groups.Group.{Group}
use Rattle.cr_groups.specs.Adding.{Adds, OfFirst}
use Rattle.cr_groups.specs.Rows.{AreGroups, AreSound, AreShown}
use Rattle.cr_groups.specs.Built.{IsBuilt}
use Rattle.cr_groups.proofs.Added.{adds_same, adds_both}
use Rattle.cr_groups.proofs.Shown.{Views, views, well}
use Rattle.cr_groups.proofs.Grouped.{are_groups}
use Rattle.cr_conflicts.specs.Asks.{AskAdds, IsOfAsked}
use Rattle.cr_conflicts.specs.Leasts.{AreLeastOf}
use Rattle.cr_conflicts.specs.Pairs.{FirstPairsAdd, IsOfPair}
use Rattle.cr_conflicts.specs.BothLinked.{LinkedAdds, IsOfLinked}
use Rattle.cr_conflicts.specs.Clauses.{UsesAdd, IsOfMention}
use Rattle.cr_conflicts.specs.Meant.{IsOfUnit}
use Rattle.cr_conflicts.specs.Members.{AreMembers, AreUnique, MeetingAdds, IsOfMembers}
use Rattle.cr_conflicts.specs.declared.members.MemberRow.{MemberRow}
use Rattle.cr_conflicts.proofs.Mentioned.{mentions_told}
use Rattle.cr_conflicts.proofs.AllDeclared.{declarations_told}
use Rattle.cr_conflicts.proofs.Asked.{asks_told}
use Rattle.cr_conflicts.proofs.Meeting.{members_told}

module _ (unit : ℕ) (t : Source) (s : State) (old new : Name) where
  abbrev OfMentions : Fact → Type 0
  OfMentions f = IsOfMention unit t s old new f ⊎ (IsOfPair unit t s old new f ⊎ IsOfLinked unit t s old new f)

  abbrev OfAll : Fact → Type 0
  OfAll f = (OfMentions f ⊎ IsOfAsked unit t s old new f) ⊎ IsOfMembers unit t s old new f

  joined : (fa : Fact) → OfAll fa → IsOfUnit unit t s old new fa
  joined fa (inl (inl (inl (k, p, f, sp, name, i, den, x, d, same, mentions, conflict, declared, keyed, placed)))) =
      (k, p, same, inl (f, mention.Named sp name i den, x, d, mentions, conflict, declared, keyed, placed))
  joined fa (inl (inl (inr (inl (k, p, f, c, d, token, e, same, mentions, collides, there, keyed, placed))))) =
      (k, p, same, inl (f, mention.Declared c, (Some d, token), e, mentions, (d, token, refl, inl collides), there, keyed, placed))
  joined fa (inl (inl (inr (inr (k, p, f, c, d, token, e, same, mentions, linked, there, keyed, placed))))) =
      (k, p, same, inl (f, mention.Declared c, (Some d, token), e, mentions, (d, token, refl, inr linked), there, keyed, placed))
  joined fa (inl (inr (k, p, f, name, i, parameter, x, d, same, mentions, conflict, declared, keyed, placed))) =
      (k, p, same, inl (f, mention.Asked name i parameter, x, d, mentions, conflict, declared, keyed, placed))
  joined fa (inr (k, p, same, meets)) = (k, p, same, inr meets)

  of_mention : (fa : Fact) (k : Key) (p : Place) (f : Flat) (what : Mention) (x : Pair) (d : Declaration) → fa ≡ fact.Conflict k p → Mentions t s f what → IsConflict f old new x what
      → declaration_of s x ≡ Some d → k ≡ declaration_key unit t s d → p ≡ place_at t x.1 → OfAll fa
  of_mention fa k p f (mention.Named sp name i den) x d same mentions conflict declared keyed placed =
      inl (inl (inl (k, p, f, sp, name, i, den, x, d, same, mentions, conflict, declared, keyed, placed)))
  of_mention fa k p f (mention.Asked name i parameter) x d same mentions conflict declared keyed placed =
      inl (inr (k, p, f, name, i, parameter, x, d, same, mentions, conflict, declared, keyed, placed))
  of_mention fa k p f (mention.Declared c) x e same mentions (d, token, pair, inl collides) declared keyed placed =
      inl (inl (inr (inl (k, p, f, c, d, token, e, same, mentions, collides, subst (λ z. declaration_of s z ≡ Some e) pair declared, keyed, placed ∙ ap (λ (z : Pair). place_at t z.1) pair))))
  of_mention fa k p f (mention.Declared c) x e same mentions (d, token, pair, inr linked) declared keyed placed =
      inl (inl (inr (inr (k, p, f, c, d, token, e, same, mentions, linked, subst (λ z. declaration_of s z ≡ Some e) pair declared, keyed, placed ∙ ap (λ (z : Pair). place_at t z.1) pair))))

  split : (fa : Fact) → IsOfUnit unit t s old new fa → OfAll fa
  split fa (k, p, same, inl (f, what, x, d, mentions, conflict, declared, keyed, placed)) =
      of_mention fa k p f what x d same mentions conflict declared keyed placed
  split fa (k, p, same, inr meets) = inr (k, p, same, meets)

pub all_told : (unit : ℕ) (t : Source) (old new : Name) (ps : List (List ℕ)) (rows : List Row) (uses : List UseRow) (members : List MemberRow) (records : List ℕ) (es : List (Slot × Group)) (least : Slot → Option ℕ)
    (start a b c d end : Facts)
    → AreRows ps rows → AreApart (map (entry_of ps) rows) → AreFormed (map (entry_of ps) rows) → AreSound t.tokens ps rows uses → AreUnique t.tokens members
    → IsBuilt unit t.texts t.tokens rows old new es (length rows) → AreLeastOf old new rows least (length rows)
    → Adds start a (UsesAdd t.tokens ps rows es old new uses (length uses))
    → Adds a b (FirstPairsAdd old new t.tokens rows es least (length rows)) → Adds b c (LinkedAdds old new t.tokens rows es)
    → Adds c d (OfFirst (AskAdds t.tokens ps rows es old new uses) uses (length uses))
    → Adds d end (OfFirst (MeetingAdds unit t.texts t.tokens rows records members old new) members (length members))
    → (s : State) → AreShown t s ps rows uses → AreMembers s members records → Adds start end (IsOfUnit unit t s old new)
all_told unit t old new ps rows uses members records es least start a b c d end kept apart formed sound unique built lows f g h i j s shown are =
    let view : Views t s ps rows uses = views t s ps rows uses shown kept sound in
    let groups : AreGroups unit t s old new rows es = are_groups unit t s old new ps rows uses view kept (well t s ps rows uses shown apart formed) es built in
    let first : Adds start c (OfMentions unit t s old new) =
    adds_both start a c (IsOfMention unit t s old new) (λ x. IsOfPair unit t s old new x ⊎ IsOfLinked unit t s old new x)
    (mentions_told unit t s old new ps rows uses es start a view groups f)
    (declarations_told unit t s old new ps rows uses es least a b c view groups lows g h) in
    let second : Adds start d (λ x. OfMentions unit t s old new x ⊎ IsOfAsked unit t s old new x) =
    adds_both start c d (OfMentions unit t s old new) (IsOfAsked unit t s old new) first (asks_told unit t s old new ps rows uses es view groups c d i) in
    adds_same start end (OfAll unit t s old new) (IsOfUnit unit t s old new)
    (joined unit t s old new)
    (split unit t s old new)
    (adds_both start d end (λ x. OfMentions unit t s old new x ⊎ IsOfAsked unit t s old new x) (IsOfMembers unit t s old new) second
    (members_told unit t s old new ps rows uses members records view kept are unique d end j))
