use Rattle.std.proofs.Common.{◌≡◌, ◌-◌, ◌<◌, false, List, [], ◌∷◌, length, get_or, refl, sym, ap, ◌∙◌, arith, rules}
use Rattle.std.specs.Prelude.{reverse}
use Rattle.std.proofs.lemmas.List.{get_or-reverse, length-reverse}
use Rattle.cr_phase4.specs.declared.conditionals.Group.{Group}
use Rattle.cr_phase4.specs.declared.conditionals.Group.TheVariants.{Taken, Before, Past}
use Rattle.cr_phase4.specs.declared.conditionals.OpenIf.{OpenIf}
use Rattle.cr_phase4.specs.Conditionals as spec
use Rattle.cr_preproc.proofs.open_ifs.OpenIfs.is_live_around.Goals as goal

second : (ys : List OpenIf) (d : OpenIf) → 1 < length ys → spec.is_live_around ys ≡ spec.is_taken (get_or ys 1 d).group
second [] d h = absurd (omega arith)
second (c ∷ []) d h = absurd (omega arith)
second (c ∷ e ∷ cs) d h = refl

around : (xs : List OpenIf) (c : OpenIf) → c ≡ get_or xs (length xs - 2) c → 1 < length xs → spec.is_live_around (reverse xs) ≡ spec.is_taken c.group
around xs c e h =
    let two : length xs - 1 - 1 ≡ length xs - 2 = omega arith in
    second (reverse xs) c (let l = length-reverse xs in omega (arith, l, h))
    ∙ ap (λ x. spec.is_taken x.group) (get_or-reverse xs 1 c h ∙ ap (λ n. get_or xs n c) two ∙ sym e)

not_taken : (group : Group) → (group ≡ Taken → ⊥) → spec.is_taken group ≡ false
not_taken Taken h = absurd (h refl)
not_taken Before h = refl
not_taken Past h = refl

pub returns-in-Taken : goal.returns-in-Taken
returns-in-Taken c =
    let h : c.len.result ≡ length c.self.inside.open.items = search rules in
    sym
    (ap spec.is_live_around (sym c.self.view_is)
    ∙ around c.self.inside.open.items c.index.result.now (c.index.ensures ∙ ap (λ n. get_or c.self.inside.open.items (n - 2) c.index.result.now) (h)) (omega (arith, h))
    ∙ ap spec.is_taken c.in-Taken.is)

pub returns-in_default-matches : goal.returns-in_default-matches
returns-in_default-matches c =
    let h : c.len.result ≡ length c.self.inside.open.items = search rules in
    sym
    (ap spec.is_live_around (sym c.self.view_is)
    ∙ around c.self.inside.open.items c.index.result.now (c.index.ensures ∙ ap (λ n. get_or c.self.inside.open.items (n - 2) c.index.result.now) (h)) (omega (arith, h))
    ∙ not_taken c.index.result.now.group c.in_default-matches.not-Taken)
