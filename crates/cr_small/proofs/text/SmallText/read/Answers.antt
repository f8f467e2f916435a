use Rattle.std.proofs.Common.{map, sym, ap, subst, ◌∙◌, ◌≡◌, length}
use Rattle.std.specs.Option.{option_map, IfSome}
use Rattle.cr_lex.specs.Lexing.{lexed}
use Rattle.cr_lex.specs.Seen.{seen, fault_in}
use Rattle.cr_small.specs.SmallForm.{Resolves, IsSmallForm}
use Rattle.cr_small.proofs.Cuts.{no_fault}
use Rattle.cr_small.proofs.text.SmallText.read.Goals as goal

pub returns-in_default : goal.returns-in_default
returns-in_default c =
    let whole = no_fault (fault_in _) (lexed c.args.bytes.now).fault _ c.in_ok-lexed.ensures.fault (sym c.is_some.ensures ∙ c.if-is_some.false) in
    let same = ap (map (seen c.lex.new.names)) c.items.ensures ∙ c.in_ok-lexed.ensures.tokens in
    subst (λ o. Resolves (lexed c.args.bytes.now) (option_map (λ v. v.items) o)) c.in_default.is (c.in_ok-denotes.ensures.resolves (lexed c.args.bytes.now) whole same)

pub returns : goal.returns
returns c =
    let whole = no_fault (fault_in _) (lexed c.args.bytes.now).fault _ c.in_ok-lexed.ensures.fault (sym c.is_some.ensures ∙ c.if-is_some.false) in
    let same = ap (map (seen c.lex.new.names)) c.items.ensures ∙ c.in_ok-lexed.ensures.tokens in
    let small : IsSmallForm (lexed c.args.bytes.now) c.in-Some.denotes.items = subst (λ o. Resolves (lexed c.args.bytes.now) (option_map (λ v. v.items) o)) c.in-Some.is (c.in_ok-denotes.ensures.resolves (lexed c.args.bytes.now) whole same) in
    record {
      tokens = c.in_ok-lexed.ensures.tokens;
      small = subst (IsSmallForm (lexed c.args.bytes.now)) (sym c.of.ensures) small;
      each =
          ap length c.of.ensures
          ∙ subst (λ o. IfSome o (λ v. length v.items ≡ length c.items.result.now)) c.in-Some.is c.in_ok-denotes.ensures.length
          ∙ ap length c.items.ensures;
    }
