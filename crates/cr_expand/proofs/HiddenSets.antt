-- Hide sets with their texts.
use Rattle.std.proofs.Common.{ℕ, ◌<◌, List, length, map, ap, ◌∙◌}
use Rattle.std.specs.List.{All}
use Rattle.std.proofs.lemmas.List.Elements.{All-get_or}
use Rattle.cr_base.specs.declared.token.Name.{Name}
use Rattle.cr_macros.specs.Tokens.{Text, with_name, both}
use Rattle.cr_macros.specs.Definition.{text_of}
use Rattle.cr_expand.specs.HideSets.{Sets, set_at, Grows, Puts, with_number, in_both, AreBelow}
use Rattle.cr_expand.specs.Held.{hidden, IsNamed, AreTables}
use Rattle.cr_expand.specs.Hiding.{IsHidden}
use Rattle.cr_expand.proofs.Kept.{tables_later}
use Rattle.cr_expand.proofs.Sets.{grows_same, grows_then}
use Rattle.cr_expand.proofs.HiddenNames.{with_text, both_text}

set_named : (names : List Text) (sets : Sets) (n : ℕ) → AreTables names sets → n < length sets → All (IsNamed names) (set_at sets n)
set_named names sets n t h = All-get_or (All (IsNamed names)) sets n _ h t.named

later : (names : List Text) (old new : Sets) → AreTables names old → Grows old new → AreBelow (length names) new → AreTables names new
later names old new t g b = tables_later names names old new t (grows_same names) g t.distinct b.at

pub one_hidden : (names : List Text) (old new : Sets) (set n : ℕ) (name : Name) → AreTables names old → set < length old → IsNamed names name → Puts old (with_number name (set_at old set)) new n → AreBelow (length names) new
    → IsHidden names old new n (with_name (text_of names name) (hidden names old set))
one_hidden names old new set n name t h k p b = record {
  grows = p.0;
  tables = later names old new t p.0 b;
  known = p.1;
  text = ap (map (text_of names)) p.2 ∙ with_text names t.distinct (set_at old set) name (set_named names old set t h) k;
}

pub both_hidden : (names : List Text) (old new : Sets) (a b n : ℕ) → AreTables names old → a < length old → b < length old → Puts old (in_both (set_at old a) (set_at old b)) new n → AreBelow (length names) new
    → IsHidden names old new n (both (hidden names old a) (hidden names old b))
both_hidden names old new a b n t h k p l = record {
  grows = p.0;
  tables = later names old new t p.0 l;
  known = p.1;
  text = ap (map (text_of names)) p.2 ∙ both_text names (set_at old a) (set_at old b) t.distinct (set_named names old a t h) (set_named names old b t k);
}

pub hidden_then : (names : List Text) (old mid new : Sets) (a b : ℕ) (hide : List Text) (name : Text) → IsHidden names old mid a hide → IsHidden names mid new b (with_name name (hidden names mid a)) → IsHidden names old new b (with_name name hide)
hidden_then names old mid new a b hide name p q = record {
  grows = grows_then old mid new p.grows q.grows;
  tables = q.tables;
  known = q.known;
  text = q.text ∙ ap (with_name name) p.text;
}
