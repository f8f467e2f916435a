-- What a directive that isn't conditional leads to.
use Rattle.std.proofs.Common.{◌≡◌, List, sym, subst}
use Rattle.cr_base.specs.declared.cause.Role.TheVariants as role
use Rattle.cr_base.specs.declared.token.Place.{Place}
use Rattle.cr_base.specs.declared.unit.Unit.{Unit}
use Rattle.cr_macros.specs.Tokens.{Text, Token}
use Rattle.cr_preproc.specs.declared.directing.Directed.{Directed}
use Rattle.cr_preproc.specs.declared.directing.Directed.TheVariants as directed
use Rattle.cr_preproc.specs.declared.directive.Order.{Order}
use Rattle.cr_preproc.specs.declared.progress.Progress.{Progress}
use Rattle.cr_phase4.specs.Tasks.{Task, Nothing, Done, ◌>>>◌, tell, marks}
use Rattle.cr_phase4.specs.Search.{World}
use Rattle.cr_phase4.specs.Directives as spec
use Rattle.cr_preproc.specs.Words.{IsWord, by_order}
use Rattle.cr_preproc.specs.Progressing.{IsProgress, Did}
use Rattle.cr_preproc.specs.Leading.{IsDirected}
use Rattle.cr_preproc.proofs.Leadings.{leads_then, did_leads}

module _ (w : World) (u : Unit) (enter : spec.Opening) (path : Text) (hash : Place) (ts : List Token) where
  -- behind a task that was done
  pub directed_behind : {A : Type 0} (p q r : Progress) (m : Task A) (f : A → Task Nothing) (a : A) (d : Directed) → IsProgress p → Did 0 p q m a
      → IsDirected w u enter path hash ts q r (f a) d → IsDirected w u enter path hash ts p r (m >>> f) d
  directed_behind p q r m f a directed.Goes good h l = leads_then 0 0 p q r _ _ _ good (did_leads 0 p q m f a h) l
  directed_behind p q r m f a (directed.Fails x) good h l = leads_then 0 0 p q r _ _ _ good (did_leads 0 p q m f a h) l
  directed_behind p q r m f a directed.Expands good h l = leads_then 0 0 p q r _ _ _ good (did_leads 0 p q m f a h) l
  directed_behind p q r m f a (directed.Looks header site) good h l = leads_then 0 0 p q r _ _ _ good (did_leads 0 p q m f a h) l

  pub at_order : (p q : Progress) (o k : Order) (d : Directed) → o ≡ k → IsDirected w u enter path hash ts p q (by_order w u enter path hash ts k) d → IsDirected w u enter path hash ts p q (by_order w u enter path hash ts o) d
  at_order p q o k d e h = subst (λ x. IsDirected w u enter path hash ts p q (by_order w u enter path hash ts x) d) (sym e) h

  -- a directive by its word, which is noted first
  pub by_word : (p q r : Progress) (mark : Token) (word read : Text) (o : Order) (us : List Token) (d : Directed) → IsProgress p → Did 0 p q (tell (marks role.Directive mark)) Done → read ≡ word → IsWord read o → us ≡ ts
      → IsDirected w u enter path hash us q r (by_order w u enter path hash us o) d
      → IsDirected w u enter path hash ts p r (tell (marks role.Directive mark) >>> λ n. spec.directive w u enter path hash word ts) d
  by_word p q r mark word read o us d good did e is f h =
      subst (λ m. IsDirected w u enter path hash ts p r (tell (marks role.Directive mark) >>> λ n. m) d) (sym (subst (λ x. IsWord x o) e is w u enter path hash ts))
      (directed_behind p q r (tell (marks role.Directive mark)) (λ n. by_order w u enter path hash ts o) Done d good did (subst (λ x. IsDirected w u enter path hash x q r (by_order w u enter path hash x o) d) f h))
