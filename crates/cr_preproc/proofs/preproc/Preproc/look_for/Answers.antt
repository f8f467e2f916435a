use Rattle.std.proofs.Common.{◌≡◌, [], ◌∷◌, ◌++◌, refl, sym, ap, subst, ◌∙◌}
use Rattle.cr_snapshot.specs.Files.{finding}
use Rattle.cr_phase4.specs.Tasks.{Needs, Ends}
use Rattle.cr_phase4.specs.Search.{world_of, search}
use Rattle.cr_phase4.specs.Lines.{place_in}
use Rattle.cr_phase4.specs.Directives.{opens}
use Rattle.cr_phase4.specs.Preprocessing.{does_file, levels}
use Rattle.cr_preproc.specs.Progressing.{state_of}
use Rattle.cr_preproc.specs.Turning.{IsOpened}
use Rattle.cr_preproc.proofs.FirstFiles.{unknown_path, first_is_wanted, number_is}
use Rattle.cr_preproc.proofs.preproc.Preproc.look_for.Goals as goal

pub returns-in-None-clause-opened : goal.returns-in-None-clause-opened
returns-in-None-clause-opened c = λ u. (
  first_is_wanted c.args.snapshot.now u c.args.path (state_of c.args.self.now.progress) (unknown_path c.args.path c.args.snapshot.now (sym c.in-None.ensures))
      ∙ ap (λ l. Ends (Needs l) []) (sym (c.in_ok-push.ensures.items ∙ ap (λ l. l ++ c.args.path ∷ []) c.new-paths.ensures.items)),
  refl,
)

pub returns-in_ok-turned-in-Some-clause-opened : goal.returns-in_ok-turned-in-Some-clause-opened
returns-in_ok-turned-in-Some-clause-opened c = λ u.
    let w = world_of c.args.snapshot.now in
    let items : c.push.new.self.items ≡ c.args.path ∷ [] = c.in_ok-push.ensures.items ∙ ap (λ l. l ++ c.args.path ∷ []) c.new-paths.ensures.items in
    subst (λ n. IsOpened w u c.args.snapshot.now c.args.self.now.progress c.after_search.new.progress (opens w (does_file w u levels) (place_in n 0) (c.args.path ∷ [])) c.in_ok-turned-in-Some.turned)
    (sym (number_is c.args.path c.args.snapshot.now c.in-Some.path.0 (sym c.in-Some.ensures)))
    (c.in_ok-turned-in-Some.ensures.opened u c.args.snapshot.now (c.args.path ∷ []) (c.in_ok-found-in-Some.ensures.found ∙ ap (search (λ path. finding path c.args.snapshot.now)) (c.deref.ensures.value ∙ items)))
