-- `##`, once it is known what the texts make.
use Rattle.std.proofs.Common.{◌≡◌, ℕ, ◌<◌, List, [], ◌++◌, map, length, sym, ap, ◌∙◌, append_assoc, Some, subst}
use Rattle.std.specs.List.{All}
use Rattle.cr_base.specs.NameTable.{IsDistinct}
use Rattle.cr_base.specs.declared.token.PpKind.{PpKind}
use Rattle.cr_base.specs.declared.token.Name.{Name}
use Rattle.cr_base.specs.declared.cause.Role.TheVariants.{Pasted}
use Rattle.cr_macros.specs.declared.macros.Seen.{Seen}
use Rattle.cr_macros.specs.OneToken.{one_token}
use Rattle.cr_macros.specs.Tokens.{Text, Token, takes, both}
use Rattle.cr_macros.specs.Definition.{text_of}
use Rattle.cr_macros.specs.Substitution as spec
use Rattle.cr_expand.specs.HideSets.{Sets, set_at, in_both, Grows}
use Rattle.cr_expand.specs.Held.{Watch, noted, Does, hidden, IsNamed, AreTables}
use Rattle.cr_expand.proofs.Noted.{noted_append}
use Rattle.cr_expand.proofs.Telling.{does_note}
use Rattle.cr_expand.proofs.Kept.{names_kept, named_later}
use Rattle.cr_expand.proofs.HiddenNames.{both_text}
use Rattle.std.proofs.lemmas.List.Elements.{All-get_or, All-weaker}

pub paste_does : (w : Watch) (s0 s1 s2 : List Seen) (name a b v : Token) (kind : PpKind) → one_token (a.text ++ b.text) ≡ Some kind → s1 ≡ s0 ++ noted w (takes Pasted a) → s2 ≡ s1 ++ noted w (takes Pasted b)
    → spec.made name kind (a.text ++ b.text) a.space (both a.hide b.hide) ≡ v → Does w s0 s2 (spec.paste name a b) v
paste_does w s0 s1 s2 name a b v kind e h k m =
    subst (Does w s0 s2 (spec.paste name a b)) m
    (subst (λ x. Does w s0 s2 x (spec.made name kind (a.text ++ b.text) a.space (both a.hide b.hide))) (sym (ap (spec.pasted_as name a b) e))
    (does_note w s0 s2 (takes Pasted a ++ takes Pasted b) (spec.made name kind (a.text ++ b.text) a.space (both a.hide b.hide))
    (k ∙ ap (λ s. s ++ noted w (takes Pasted b)) h ∙ append_assoc s0 (noted w (takes Pasted a)) (noted w (takes Pasted b)) ∙ ap (λ s. s0 ++ s) (sym (noted_append w (takes Pasted a) (takes Pasted b))))))

-- what is hidden from both, by text
pub hidden_both : (names new : List Text) (sets more : Sets) (a b n : ℕ) → AreTables names sets → IsDistinct new → Grows names new → a < length sets → b < length sets → set_at more n ≡ in_both (set_at sets a) (set_at sets b)
    → hidden new more n ≡ both (hidden names sets a) (hidden names sets b)
hidden_both names new sets more a b n t d g h k e =
    let named_a : All (IsNamed names) (set_at sets a) = All-get_or (All (IsNamed names)) sets a [] h t.named in
    let named_b : All (IsNamed names) (set_at sets b) = All-get_or (All (IsNamed names)) sets b [] k t.named in
    let later : (ns : List Name) → All (IsNamed names) ns → All (IsNamed new) ns = λ ns l. All-weaker (IsNamed names) (IsNamed new) (λ x. named_later names new x g) ns l in
    ap (map (text_of new)) e
    ∙ both_text new (set_at sets a) (set_at sets b) d (later (set_at sets a) named_a) (later (set_at sets b) named_b)
    ∙ ap (λ x. both x (map (text_of new) (set_at sets b))) (names_kept names new (set_at sets a) g named_a)
    ∙ ap (both (hidden names sets a)) (names_kept names new (set_at sets b) g named_b)
