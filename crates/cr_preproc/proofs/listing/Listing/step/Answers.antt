use Rattle.std.proofs.Common.{◌≡◌, ◌++◌, [], ◌∷◌, map, sym, ap, ◌∙◌, subst, refl, append-nil}
use Rattle.cr_macros.specs.Tokens.{token_of, tokens_of}
use Rattle.cr_expand.specs.Expanders.{plain}
use Rattle.cr_preproc.specs.declared.expansion.Expansion.{Expansion}
use Rattle.cr_preproc.specs.declared.expansion.Use.TheVariants as use1
use Rattle.cr_preproc.specs.Expanding.{IsUsed, end_by}
use Rattle.cr_preproc.specs.Seen.{AreNamed}
use Rattle.cr_preproc.proofs.ListsLeft.{given_plain, named_put}
use Rattle.cr_preproc.proofs.NamesGrow.{tokens_later, all_named_later}
use Rattle.cr_preproc.proofs.listing.Listing.step.Goals as goal

pub returns-in-Goes-clause-listed : goal.returns-in-Goes-clause-listed
returns-in-Goes-clause-listed c =
    let p = c.args.progress.now in
    let q = c.step.new.progress in
    let l = c.args.self.now in
    let f = c.step.new.self in
    let used : IsUsed p q l.expansion.value f use1.Goes = subst (λ (x : Expansion). IsUsed p q x f use1.Goes) c.deref_mut.ensures.value (subst (IsUsed p q c.deref_mut.result.now f) c.in-Goes.is c.in_ok-step.ensures.used) in
    let grows = used.4.told.names in
    record {
      told = used.0;
      gave = [];
      one = used.1;
      still = used.3;
      given = ap (map plain) (append-nil (tokens_of p.names l.given.items) ∙ sym (tokens_later p.names q.names l.given.items grows c.requires.listing.given));
      noted = used.4;
      listing = record { expanding = used.5; given = all_named_later p.names q.names l.given.items grows c.requires.listing.given };
      literal = used.6;
      hash = refl;
    }

pub returns-in_ok-push-in-Gives-clause-listed : goal.returns-in_ok-push-in-Gives-clause-listed
returns-in_ok-push-in-Gives-clause-listed c =
    let p = c.args.progress.now in
    let q = c.step.new.progress in
    let l = c.args.self.now in
    let f = c.step.new.self in
    let t = c.in-Gives.t in
    let given = l.given.items in
    let used : IsUsed p q l.expansion.value f (use1.Gives t) = subst (λ (x : Expansion). IsUsed p q x f (use1.Gives t)) c.deref_mut.ensures.value (subst (IsUsed p q c.deref_mut.result.now f) c.in-Gives.is c.in_ok-step.ensures.used) in
    let grows = used.8.told.names in
    let put : c.push.new.self.items ≡ given ++ t ∷ [] = c.in_ok-push-in-Gives.ensures.items in
    record {
      told = used.1;
      gave = token_of q.names used.0 t ∷ [];
      one = used.3;
      still = used.6;
      given = given_plain q.names (tokens_of p.names given) given used.0 t (sym (tokens_later p.names q.names given grows c.requires.listing.given)) ∙ ap (λ ts. map plain (tokens_of q.names ts)) (sym put);
      noted = used.8;
      listing = record { expanding = used.9; given = subst (AreNamed q.names) (sym put) (named_put q.names given t (all_named_later p.names q.names given grows c.requires.listing.given) used.7) };
      literal = used.10;
      hash = refl;
    }

pub returns-in-Ends-clause-listed : goal.returns-in-Ends-clause-listed
returns-in-Ends-clause-listed c =
    let p = c.args.progress.now in
    let q = c.step.new.progress in
    let l = c.args.self.now in
    let f = c.step.new.self in
    let used : IsUsed p q l.expansion.value f use1.Ends = subst (λ (x : Expansion). IsUsed p q x f use1.Ends) c.deref_mut.ensures.value (subst (IsUsed p q c.deref_mut.result.now f) c.in-Ends.is c.in_ok-step.ensures.used) in
    record { same = used.0; limit = used.1; still = used.3; given = refl; hash = refl }

pub returns-in-Fails-clause-listed : goal.returns-in-Fails-clause-listed
returns-in-Fails-clause-listed c =
    let p = c.args.progress.now in
    let q = c.step.new.progress in
    let l = c.args.self.now in
    let f = c.step.new.self in
    let fault = c.in-Fails.fault in
    let used : IsUsed p q l.expansion.value f (use1.Fails fault) = subst (λ (x : Expansion). IsUsed p q x f (use1.Fails fault)) c.deref_mut.ensures.value (subst (IsUsed p q c.deref_mut.result.now f) c.in-Fails.is c.in_ok-step.ensures.used) in
    record { cause = end_by fault; stops = used.1; moves = c.at.ensures; noted = used.2 }
