use Rattle.std.proofs.Common.{ap, sym, ◌∙◌}
use Rattle.std.specs.Prelude.{bytes_eq}
use Rattle.std.specs.List.{list_any}
use Rattle.cr_small.proofs.Lengths.{among_its_length}
use Rattle.cr_small.proofs.keyword.is_keyword.Goals as goal

pub returns-in-Some : goal.returns-in-Some
returns-in-Some c =
    c.is_among.ensures
    ∙ ap (list_any (λ word. bytes_eq word c.args.text.now)) c.in-Some.ensures
    ∙ among_its_length c.args.text.now

pub returns-in-None : goal.returns-in-None
returns-in-None c =
    ap (list_any (λ word. bytes_eq word c.args.text.now)) (sym c.in-None.ensures)
    ∙ among_its_length c.args.text.now
