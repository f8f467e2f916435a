-- The member that is noted for a token is what is selected.
use Rattle.std.proofs.Common.{◌≡◌, ℕ, false, Option, Some, List, length, sym, ap, subst, ◌∙◌}
use Rattle.std.specs.Prelude.{slice_get}
use Rattle.cr_base.specs.declared.token.Tok.{Tok}
use Rattle.cr_base.specs.declared.key.Key.{Key}
use Rattle.cr_facts.specs.FactOrder.{Facts}
use Rattle.cr_declared.specs.declared.rows.Row.{Row}
use Rattle.cr_groups.specs.Adding.{Adds}
use Rattle.cr_groups.specs.Firsts.{find_number, IsFirstOf, AreFirsts}
use Rattle.cr_groups.proofs.Added.{adds_same}
use Rattle.cr_conflicts.specs.Members.{member_key_in}
use Rattle.cr_conflicts.specs.declared.members.MemberRow.{MemberRow}
use Rattle.cr_conflicts.proofs.Tokened.{first_one, first_is, has_key}
use Rattle.cr_unit_facts.specs.declared.nature.Nature.{Nature}
use Rattle.cr_unit_facts.specs.Occurring.{TokenSays}
use Rattle.cr_unit_facts.specs.Telling.{member_nature, own_token, SelectedTells}

pub selected : (unit : ℕ) (texts : List (List ℕ)) (tokens : List Tok) (rows : List Row) (records : List ℕ) (members : List MemberRow) (i member : ℕ) (fs : List (ℕ × ℕ)) (o : Option ℕ) (n : ℕ) (y : MemberRow) (k : Key) (nature : Nature) (start end : Facts)
    → AreFirsts own_token members fs (length members) → o ≡ find_number member fs → o ≡ Some n → slice_get members n ≡ Some y
    → k ≡ member_key_in unit texts tokens rows records y → nature ≡ member_nature → Adds start end (TokenSays tokens i false nature k)
    → Adds start end (SelectedTells unit texts tokens rows records members i member)
selected unit texts tokens rows records members i member fs o n y k nature start end firsts found is there keyed natured h =
    adds_same start end (TokenSays tokens i false member_nature (member_key_in unit texts tokens rows records y)) (SelectedTells unit texts tokens rows records members i member)
    (λ f e. (n, record { before = here.before; itself = (y, there, mine); earliest = here.earliest }, e))
    (λ f e.
    let c : e.0 ≡ n = first_one own_token members (length members) member e.0 n e.1 here in
    let q : Some e.1.itself.0 ≡ Some y = sym e.1.itself.1 ∙ ap (slice_get members) c ∙ there in
    let s : e.1.itself.0 ≡ y = cc in
    subst (λ z. TokenSays tokens i false member_nature (member_key_in unit texts tokens rows records z) f) s e.2)
    (subst (λ z. Adds start end (TokenSays tokens i false z (member_key_in unit texts tokens rows records y))) natured (subst (λ z. Adds start end (TokenSays tokens i false nature z)) keyed h))
  where
    here : IsFirstOf own_token members (length members) member n
    here = first_is own_token members fs member n o firsts found is

    mine : own_token y ≡ Some member
    mine = has_key own_token members (length members) member n y there here
