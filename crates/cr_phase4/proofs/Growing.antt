-- A unit goes on where more is known.
use Rattle.std.proofs.Common.{◌≡◌, ◌⊎◌, inl, inr, ℕ, zero, suc, Bool, true, false, cond, List, [], ◌∷◌, ◌++◌, refl, ap, sym, ◌∙◌, subst, Some, None, Option, append_assoc, append-nil}
use Rattle.std.specs.Prelude.{codes, ◌||◌, bytes_eq}
use Rattle.cr_base.specs.declared.token.Place.{Place}
use Rattle.cr_base.specs.declared.cause.IllCause.TheVariants as cause
use Rattle.cr_base.specs.declared.cause.Role.TheVariants as role
use Rattle.cr_base.specs.declared.unit.Unit.{Unit}
use Rattle.cr_snapshot.specs.Files.{Finding, Present, Absent, Unknown}
use Rattle.cr_snapshot.specs.IncludeSearch.{is_apart, candidates}
use Rattle.cr_macros.specs.Tokens.{Text, Token, has}
use Rattle.cr_phase4.specs.Tasks.{End, Ill, Over, Needs, Event, Looked, Opened, State, Reply, Goes, Ends, Task, Nothing, behind, go_on, ◌>>>◌, only, ready, ends, tell, look, marks, reads, in_directive, events_of}
use Rattle.cr_phase4.specs.Lines.{File, file_of, place_in, Line, Plain, Conditional, Directive, Empty, Wordless, line_of}
use Rattle.cr_phase4.specs.Definition.{definition, undefined_name}
use Rattle.cr_phase4.specs.Search.{World, Search, Finds, Misses, Lacks, search, unknown, looked_for, words_path}
use Rattle.cr_phase4.specs.Runs.{runs, expands}
use Rattle.cr_phase4.specs.declared.conditionals.OpenIf.{OpenIf}
use Rattle.cr_phase4.specs.Conditionals.{is_live}
use Rattle.cr_phase4.specs.Directives.{Opening, Header, all_marks, header_name, site_of, opens_found, looks, opens, includes_expanded, includes, defines, undefines, pragma, plain_directive, directive}
use Rattle.cr_phase4.specs.Preprocessing.{Ahead, ahead, where_live, by_line, at_end, takes_line, does_lines, does_file, levels, does_first_file, does_unit, at_first, preprocessed}
use Rattle.cr_phase4.specs.PreprocessingRun.{Agrees, IsLargerEnd, IsLarger, GoesOn}

-- the same of any reply
abbrev IsMoreEnd : {A : Type 0} → End → List Event → Reply A → Type 0
IsMoreEnd (Ill why site) es q = q ≡ Ends (Ill why site) es
IsMoreEnd (Over limit) es q = q ≡ Ends (Over limit) es
IsMoreEnd (Needs paths) es q = (more : List Event) × (events_of q ≡ es ++ more)

abbrev IsMore : {A : Type 0} → Reply A → Reply A → Type 0
IsMore (Goes a s es) q = q ≡ Goes a s es
IsMore (Ends end es) q = IsMoreEnd end es q

record Grows {A : Type 0} (m n : Task A) : Type 0 where
  at : (s : State) → IsMore (m s) (n s)

end_same : (A : Type 0) (e : End) (es : List Event) → IsMoreEnd {A = A} e es (Ends e es)
end_same A (Needs ps) es = ([], sym (append-nil es))
end_same A (Ill why p) es = refl
end_same A (Over l) es = refl

same_more : {A : Type 0} (r : Reply A) → IsMore r r
same_more (Goes a s es) = refl
same_more {A} (Ends e es) = end_same A e es

grows_same : {A : Type 0} (m : Task A) → Grows m m
grows_same m = record { at = λ s. same_more (m s) }

events_behind : {A : Type 0} (es : List Event) (r : Reply A) → events_of (behind es r) ≡ es ++ events_of r
events_behind es (Goes a s more) = refl
events_behind es (Ends e more) = refl

behind_end : {A : Type 0} (es : List Event) (e : End) (more : List Event) (q : Reply A) → IsMoreEnd e more q → IsMoreEnd e (es ++ more) (behind es q)
behind_end es (Needs ps) more q h = (h.0, events_behind es q ∙ ap (λ x. es ++ x) h.1 ∙ sym (append_assoc es more h.0))
behind_end es (Ill why p) more q h = ap (behind es) h
behind_end es (Over l) more q h = ap (behind es) h

behind_more : {A : Type 0} (es : List Event) (r q : Reply A) → IsMore r q → IsMore (behind es r) (behind es q)
behind_more es (Goes a s more) q h = ap (behind es) h
behind_more es (Ends e more) q h = behind_end es e more q h

more_events : {A B : Type 0} (es more : List Event) (q : Reply A) (g : A → Task B) → events_of q ≡ es ++ more → (rest : List Event) × (events_of (go_on q g) ≡ es ++ rest)
more_events es more (Goes a s es2) g h = (more ++ events_of (g a s), events_behind es2 (g a s) ∙ ap (λ x. x ++ events_of (g a s)) h ∙ append_assoc es more (events_of (g a s)))
more_events es more (Ends e es2) g h = (more, h)

then_end : {A B : Type 0} (e : End) (es : List Event) (q : Reply A) (g : A → Task B) → IsMoreEnd e es q → IsMoreEnd e es (go_on q g)
then_end (Needs ps) es q g h = more_events es h.0 q g h.1
then_end (Ill why p) es q g h = ap (λ x. go_on x g) h
then_end (Over l) es q g h = ap (λ x. go_on x g) h

then_more : {A B : Type 0} (r q : Reply A) (f g : A → Task B) → IsMore r q → ((a : A) → Grows (f a) (g a)) → IsMore (go_on r f) (go_on q g)
then_more (Goes a s es) q f g h k = subst (λ x. IsMore (behind es (f a s)) (go_on x g)) (sym h) (behind_more es (f a s) (g a s) ((k a).at s))
then_more (Ends e es) q f g h k = then_end e es q g h

grows_then : {A B : Type 0} (m n : Task A) (f g : A → Task B) → Grows m n → ((a : A) → Grows (f a) (g a)) → Grows (m >>> f) (n >>> g)
grows_then m n f g h k = record { at = λ s. then_more (m s) (n s) f g (h.at s) k }

-- with the same beginning
grows_on : {A B : Type 0} (m : Task A) (f g : A → Task B) → ((a : A) → Grows (f a) (g a)) → Grows (m >>> f) (m >>> g)
grows_on m f g k = grows_then m m f g (grows_same m) k

grows_if : {A : Type 0} (b : Bool) (m n m1 n1 : Task A) → Grows m m1 → Grows n n1 → Grows (cond b m n) (cond b m1 n1)
grows_if true m n m1 n1 h k = h
grows_if false m n m1 n1 h k = k

grows_live : {A : Type 0} (b : Bool) (m m1 n : Task A) → Grows m m1 → Grows (where_live b m n) (where_live b m1 n)
grows_live true m m1 n h = h
grows_live false m m1 n h = grows_same n

-- what is found stays found

abbrev Stays : Search → Search → List Text → List Text → Type 0
Stays (Lacks ps) t xs ys = Prim.Unit {0}
Stays s t xs ys = (t ≡ s) × (ys ≡ xs)

abbrev IsKnown : Finding → Finding → Type 0
IsKnown f g = (f ≡ Unknown) ⊎ (g ≡ f)

abbrev search_by : Text → Search → List Text → Finding → Search
search_by p s us f = elim f [ Present n bytes ↦ Finds p n bytes | Absent ↦ s | Unknown ↦ Lacks us ]

abbrev looked_by : Text → List Text → Finding → List Text
looked_by p ps f = (cond (is_apart p) [] (p ∷ [])) ++ elim f [ Present n bytes ↦ [] | Absent ↦ ps | Unknown ↦ ps ]

stays_after : (p : Text) (xs ys : List Text) (s t : Search) → Stays s t xs ys → Stays s t (cond (is_apart p) [] (p ∷ []) ++ xs) (cond (is_apart p) [] (p ∷ []) ++ ys)
stays_after p xs ys (Lacks ps) t h = tt
stays_after p xs ys Misses t h = (h.0, ap (λ x. cond (is_apart p) [] (p ∷ []) ++ x) h.1)
stays_after p xs ys (Finds q n bytes) t h = (h.0, ap (λ x. cond (is_apart p) [] (p ∷ []) ++ x) h.1)

stays_at : (p : Text) (s t : Search) (us vs xs ys : List Text) (f : Finding) → Stays s t xs ys → Stays (search_by p s us f) (search_by p t vs f) (looked_by p xs f) (looked_by p ys f)
stays_at p s t us vs xs ys (Present n bytes) h = (refl, refl)
stays_at p s t us vs xs ys Absent h = stays_after p xs ys s t h
stays_at p s t us vs xs ys Unknown h = tt

stays_by : (p : Text) (s t : Search) (us vs xs ys : List Text) (f g : Finding) → IsKnown f g → Stays s t xs ys → Stays (search_by p s us f) (search_by p t vs g) (looked_by p xs f) (looked_by p ys g)
stays_by p s t us vs xs ys f g (inl e) h = subst (λ x. Stays (search_by p s us x) (search_by p t vs g) (looked_by p xs x) (looked_by p ys g)) (sym e) tt
stays_by p s t us vs xs ys f g (inr e) h = subst (λ x. Stays (search_by p s us f) (search_by p t vs x) (looked_by p xs f) (looked_by p ys x)) (sym e) (stays_at p s t us vs xs ys f h)

stays : (f g : Text → Finding) → ((p : Text) → IsKnown (f p) (g p)) → (ps : List Text) → Stays (search f ps) (search g ps) (looked_for f ps) (looked_for g ps)
stays f g h [] = (refl, refl)
stays f g h (p ∷ ps) = stays_by p (search f ps) (search g ps) (p ∷ unknown f ps) (p ∷ unknown g ps) (looked_for f ps) (looked_for g ps) (f p) (g p) (h p) (stays f g h ps)

abbrev told : Opening → Place → List Text → Search → Task Nothing
told enter site ls s = tell (Looked ls ∷ []) >>> λ d. opens_found enter site s

abbrev EntersMore : Opening → Opening → Type 0
EntersMore enter enter1 = (p : Text) (f : File) → Grows (enter p f) (enter1 p f)

grows_found : (enter enter1 : Opening) → EntersMore enter enter1 → (site : Place) (s : Search) → Grows (opens_found enter site s) (opens_found enter1 site s)
grows_found enter enter1 h site (Finds p n bytes) =
    grows_on look (λ s. cond (has s.once p) ready (enter p (file_of n bytes))) (λ s. cond (has s.once p) ready (enter1 p (file_of n bytes)))
    (λ s. grows_if (has s.once p) ready (enter p (file_of n bytes)) ready (enter1 p (file_of n bytes)) (grows_same ready) (h p (file_of n bytes)))
grows_found enter enter1 h site Misses = grows_same (ends (Ill cause.MissingFile site))
grows_found enter enter1 h site (Lacks ps) = grows_same (ends (Needs ps))

grows_told : (enter enter1 : Opening) → EntersMore enter enter1 → (site : Place) (ls : List Text) (s : Search) → Grows (told enter site ls s) (told enter1 site ls s)
grows_told enter enter1 h site ls s = grows_on (tell (Looked ls ∷ [])) (λ d. opens_found enter site s) (λ d. opens_found enter1 site s) (λ d. grows_found enter enter1 h site s)

module _ (w v : World) (a : Agrees w v) where
  known : (p : Text) → IsKnown (w.find p) (v.find p)
  known p = go (a.known p) where
    go : (w.find p ≡ Unknown) ⊎ ((v.find p ≡ w.find p) × (v.number p ≡ w.number p)) → IsKnown (w.find p) (v.find p)
    go (inl e) = inl e
    go (inr e) = inr e.0

  grows_looks : (enter enter1 : Opening) → EntersMore enter enter1 → (site : Place) (ps : List Text) (s : Search) → Stays s (search v.find ps) (looked_for w.find ps) (looked_for v.find ps)
      → Grows (looks w enter site ps s) (looks v enter1 site ps (search v.find ps))
  grows_looks enter enter1 h site ps (Lacks qs) k = record { at = λ s. (events_of (looks v enter1 site ps (search v.find ps) s), refl) }
  grows_looks enter enter1 h site ps Misses k =
      subst (λ x. Grows (told enter site (looked_for w.find ps) Misses) (looks v enter1 site ps x)) (sym k.0)
      (subst (λ x. Grows (told enter site (looked_for w.find ps) Misses) (told enter1 site x Misses)) (sym k.1) (grows_told enter enter1 h site (looked_for w.find ps) Misses))
  grows_looks enter enter1 h site ps (Finds p n bytes) k =
      subst (λ x. Grows (told enter site (looked_for w.find ps) (Finds p n bytes)) (looks v enter1 site ps x)) (sym k.0)
      (subst (λ x. Grows (told enter site (looked_for w.find ps) (Finds p n bytes)) (told enter1 site x (Finds p n bytes))) (sym k.1) (grows_told enter enter1 h site (looked_for w.find ps) (Finds p n bytes)))

  grows_opens : (enter enter1 : Opening) → EntersMore enter enter1 → (site : Place) (ps : List Text) → Grows (opens w enter site ps) (opens v enter1 site ps)
  grows_opens enter enter1 h site ps = grows_looks enter enter1 h site ps (search w.find ps) (stays w.find v.find known ps)

  module _ (u : Unit) where
    module _ (enter enter1 : Opening) (h : EntersMore enter enter1) where
      grows_expanded : (path : Text) (hash : Place) (us : List Token) (o : Option Header) → Grows (includes_expanded w u enter path hash us o) (includes_expanded v u enter1 path hash us o)
      grows_expanded path hash us None = grows_same (ends (Ill cause.BadDirective hash))
      grows_expanded path hash us (Some x) = grows_opens enter enter1 h (site_of hash us) (candidates u path x.angled x.name)

      grows_includes : (path : Text) (hash : Place) (ts : List Token) (o : Option Header) → Grows (includes w u enter path hash ts o) (includes v u enter1 path hash ts o)
      grows_includes path hash ts (Some x) = grows_opens enter enter1 h (site_of hash ts) (candidates u path x.angled x.name)
      grows_includes path hash ts None =
          grows_on (in_directive hash (expands path ts)) (λ us. tell (all_marks role.Directive us) >>> λ d. includes_expanded w u enter path hash us (header_name us)) (λ us. tell (all_marks role.Directive us) >>> λ d. includes_expanded v u enter1 path hash us (header_name us))
          (λ us. grows_on (tell (all_marks role.Directive us)) (λ d. includes_expanded w u enter path hash us (header_name us)) (λ d. includes_expanded v u enter1 path hash us (header_name us)) (λ d. grows_expanded path hash us (header_name us)))

      grows_plain : (path : Text) (hash : Place) (word : Text) (ts : List Token) → Grows (plain_directive w u enter path hash word ts) (plain_directive v u enter1 path hash word ts)
      grows_plain path hash word ts =
          grows_if (bytes_eq word (codes "include")) (tell (all_marks role.Directive ts) >>> λ d. includes w u enter path hash ts (header_name ts)) other (tell (all_marks role.Directive ts) >>> λ d. includes v u enter1 path hash ts (header_name ts)) other
          (grows_on (tell (all_marks role.Directive ts)) (λ d. includes w u enter path hash ts (header_name ts)) (λ d. includes v u enter1 path hash ts (header_name ts)) (λ d. grows_includes path hash ts (header_name ts)))
          (grows_same other) where
            other : Task Nothing
            other =
                cond (bytes_eq word (codes "undef")) (undefines hash (undefined_name ts)) (cond (bytes_eq word (codes "pragma")) (pragma path ts)
                (cond (bytes_eq word (codes "line") || bytes_eq word (codes "warning")) (tell (all_marks role.Directive ts)) (cond (bytes_eq word (codes "ident")) ready (cond (bytes_eq word (codes "error")) (tell (all_marks role.Directive ts) >>> λ d. ends (Ill cause.ErrorDirective hash)) (ends (Ill cause.BadDirective hash))))))

      grows_directive : (path : Text) (hash : Place) (word : Text) (ts : List Token) → Grows (directive w u enter path hash word ts) (directive v u enter1 path hash word ts)
      grows_directive path hash word ts =
          grows_if (bytes_eq word (codes "define")) (defines hash (definition ts)) (plain_directive w u enter path hash word ts) (defines hash (definition ts)) (plain_directive v u enter1 path hash word ts)
          (grows_same (defines hash (definition ts))) (grows_plain path hash word ts)

      grows_line : (path : Text) (cs : List OpenIf) (run line : List Token) (k : Line) → Grows (by_line w u enter path cs run line k) (by_line v u enter1 path cs run line k)
      grows_line path cs run line Plain = grows_same (by_line w u enter path cs run line Plain)
      grows_line path cs run line (Conditional hash t word ts) = grows_same (by_line w u enter path cs run line (Conditional hash t word ts))
      grows_line path cs run line Empty = grows_same (by_line w u enter path cs run line Empty)
      grows_line path cs run line (Wordless hash) = grows_same (by_line w u enter path cs run line (Wordless hash))
      grows_line path cs run line (Directive hash t ts) =
          grows_live (is_live cs) (runs path run >>> λ d. old) (runs path run >>> λ d. new) (only (ahead cs run))
          (grows_on (runs path run) (λ d. old) (λ d. new)
          (λ d. grows_on (tell (marks role.Directive t)) (λ d. directive w u enter path hash t.text ts >>> λ d. only (ahead cs [])) (λ d. directive v u enter1 path hash t.text ts >>> λ d. only (ahead cs []))
          (λ d. grows_then (directive w u enter path hash t.text ts) (directive v u enter1 path hash t.text ts) (λ d. only (ahead cs [])) (λ d. only (ahead cs [])) (grows_directive path hash t.text ts) (λ d. grows_same (only (ahead cs [])))))) where
            old : Task Ahead
            old = tell (marks role.Directive t) >>> λ d. directive w u enter path hash t.text ts >>> λ d. only (ahead cs [])

            new : Task Ahead
            new = tell (marks role.Directive t) >>> λ d. directive v u enter1 path hash t.text ts >>> λ d. only (ahead cs [])

      grows_lines : (path : Text) (fault : Option End) (lines : List (List Token)) (cs : List OpenIf) (run : List Token) → Grows (does_lines w u enter path fault lines cs run) (does_lines v u enter1 path fault lines cs run)
      grows_lines path fault [] cs run = grows_same (at_end path run fault cs)
      grows_lines path fault (l ∷ ls) cs run =
          grows_on (takes_line path cs run l) (λ d. by_line w u enter path cs run l (line_of l) >>> λ b. does_lines w u enter path fault ls b.open_ifs b.run) (λ d. by_line v u enter1 path cs run l (line_of l) >>> λ b. does_lines v u enter1 path fault ls b.open_ifs b.run)
          (λ d. grows_then (by_line w u enter path cs run l (line_of l)) (by_line v u enter1 path cs run l (line_of l)) (λ b. does_lines w u enter path fault ls b.open_ifs b.run) (λ b. does_lines v u enter1 path fault ls b.open_ifs b.run) (grows_line path cs run l (line_of l))
          (λ b. grows_lines path fault ls b.open_ifs b.run))

    grows_file : (n : ℕ) → EntersMore (does_file w u n) (does_file v u n)
    grows_file zero path file = grows_same (does_file w u zero path file)
    grows_file (suc n) path file =
        grows_on (tell (Opened path ∷ [])) (λ d. reads 1 [] >>> λ d. does_lines w u (does_file w u n) path file.fault file.lines [] []) (λ d. reads 1 [] >>> λ d. does_lines v u (does_file v u n) path file.fault file.lines [] [])
        (λ d. grows_on (reads 1 []) (λ d. does_lines w u (does_file w u n) path file.fault file.lines [] []) (λ d. does_lines v u (does_file v u n) path file.fault file.lines [] [])
        (λ d. grows_lines (does_file w u n) (does_file v u n) (grows_file n) path file.fault file.lines [] []))

    grows_first : (path : Text) → Grows (does_first_file w u path) (does_first_file v u path)
    grows_first path = go (a.known path) where
      enters : EntersMore (does_file w u levels) (does_file v u levels)
      enters = grows_file levels

      by : ℕ → Grows (does_first_file w u path) (opens v (does_file v u levels) (place_in (w.number path) 0) (path ∷ []))
      by n = grows_opens (does_file w u levels) (does_file v u levels) enters (place_in (w.number path) 0) (path ∷ [])

      lacks : (f : Finding) → f ≡ Unknown → (site : Place) → Grows (looks w (does_file w u levels) site (path ∷ []) (search_by path Misses (path ∷ []) f)) (does_first_file v u path)
      lacks f e site = subst (λ x. Grows (looks w (does_file w u levels) site (path ∷ []) (search_by path Misses (path ∷ []) x)) (does_first_file v u path)) (sym e) (record { at = λ s. (events_of (does_first_file v u path s), refl) })

      go : (w.find path ≡ Unknown) ⊎ ((v.find path ≡ w.find path) × (v.number path ≡ w.number path)) → Grows (does_first_file w u path) (does_first_file v u path)
      go (inl e) = lacks (w.find path) e (place_in (w.number path) 0)
      go (inr e) = subst (λ n. Grows (does_first_file w u path) (opens v (does_file v u levels) (place_in n 0) (path ∷ []))) (sym e.1) (by 0)

    grows_unit : Grows (does_unit w u) (does_unit v u)
    grows_unit = grows_then (does_first_file w u (words_path u)) (does_first_file v u (words_path u)) (λ d. does_first_file w u u.main) (λ d. does_first_file v u u.main) (grows_first (words_path u)) (λ d. grows_first u.main)

larger_end : (e : End) (es : List Event) (q : Reply Nothing) → IsMoreEnd e es q → IsLargerEnd e es q
larger_end (Ill why p) es q h = h
larger_end (Over l) es q h = h
larger_end (Needs ps) es q h = h

larger : (r q : Reply Nothing) → IsMore r q → IsLarger r q
larger (Goes d s es) q h = h
larger (Ends e es) q h = larger_end e es q h

pub goes_on : GoesOn
unfolding preprocessed
goes_on w v u a = larger (does_unit w u at_first) (does_unit v u at_first) ((grows_unit w v a u).at at_first)
