use Rattle.std.proofs.Common.{◌∙◌, subst, sym}
use Rattle.cr_lex.specs.Lexers.{left}
use Rattle.cr_lex.specs.Seen.{IsStep, IsOf}
use Rattle.cr_lex.proofs.Runs.{IsRun, first_run, one_more}
use Rattle.cr_lex.proofs.lexer.run.Goals as goal

pub loop-tokens-init : goal.loop-tokens-init
loop-tokens-init c =
    let bytes = c.args.bytes.now in
    record {
      run = subst (λ ts. IsRun bytes c.args.file c.args.names.now c.args.names.now ts (left bytes c.new-lexer.result)) (sym c.new-tokens.ensures.items)
          (first_run bytes c.args.file c.args.names.now (left bytes c.new-lexer.result) (c.new-lexer.ensures.left bytes));
      within = c.new-lexer.ensures.within bytes;
      file = c.new-lexer.ensures.file;
    }

pub loop-tokens-preserved : goal.loop-tokens-preserved
loop-tokens-preserved c =
    let bytes = c.args.bytes.now in
    let h = c.loop-tokens.invariant in
    let step = subst (IsStep c.loop-tokens.lexer.file c.next.new.names (left bytes c.loop-tokens.lexer) (left bytes c.next.new.self)) c.in-Token.is c.in_ok-token.ensures.step in
    record {
      run = one_more bytes c.args.file c.args.names.now c.loop-tokens.names c.next.new.names c.loop-tokens.tokens.items c.push.new.self.items c.in-Token.token _ _
          h.run step.0 (subst (λ f. IsOf f c.next.new.names c.in-Token.token) h.file step.1) c.in_ok-token.ensures.names c.in_ok-push-in-Token.ensures.items;
      within = c.in_ok-token.ensures.within;
      file = c.in_ok-token.ensures.file ∙ h.file;
    }
