-- Strings of arguments.
use Rattle.std.proofs.Common.{◌≡◌, true, false, List, [], ◌∷◌, ◌++◌, refl, sym, ap, subst}
use Rattle.std.specs.Prelude.{flat_map, if◌then◌else◌}
use Rattle.cr_base.specs.declared.token.PpKind.TheVariants.{Str}
use Rattle.cr_base.specs.declared.cause.Role.TheVariants.{Stringized}
use Rattle.cr_macros.specs.declared.macros.Seen.{Seen}
use Rattle.cr_expand.specs.declared.held.Held.{Held}
use Rattle.cr_macros.specs.declared.fault.ExpandFault.{ExpandFault}
use Rattle.cr_macros.specs.declared.fault.ExpandFault.TheVariants as fault
use Rattle.cr_macros.specs.OneToken.{is_string}
use Rattle.cr_macros.specs.Tokens.{Text, Token, BadPaste, note, fail, takes}
use Rattle.cr_macros.specs.Substitution.{string_of, spelling, spelling_of, spelling_of_rest, in_quotes, made}
use Rattle.cr_expand.specs.HideSets.{Sets}
use Rattle.cr_expand.specs.Held.{Watch, noted, Does, Stops, held, all_held}
use Rattle.cr_expand.proofs.Telling.{does_note, stops_fail}

rest_any_sets : (names : List Text) (sets : Sets) (hs : List Held) → spelling_of_rest (all_held names [] hs) ≡ spelling_of_rest (all_held names sets hs)
rest_any_sets names sets [] = refl
rest_any_sets names sets (h ∷ hs) = ap (λ l. ((if h.token.space then 32 ∷ [] else []) ++ spelling_of (held names sets h)) ++ l) (rest_any_sets names sets hs)

-- the spelling says nothing of what is hidden
pub any_sets : (names : List Text) (sets : Sets) (hs : List Held) → spelling (all_held names [] hs) ≡ spelling (all_held names sets hs)
any_sets names sets [] = refl
any_sets names sets (h ∷ hs) = ap (λ l. spelling_of (held names sets h) ++ l) (rest_any_sets names sets hs)

pub string_does : (w : Watch) (s0 s1 : List Seen) (name hash : Token) (arg : List Token) (v : Token) → is_string (in_quotes (spelling arg)) ≡ true → s1 ≡ s0 ++ noted w (flat_map (takes Stringized) arg)
    → made name Str (in_quotes (spelling arg)) hash.space [] ≡ v → Does w s0 s1 (string_of name hash arg) v
string_does w s0 s1 name hash arg v e s h =
    subst (Does w s0 s1 (string_of name hash arg)) h
    (subst (λ m. Does w s0 s1 m (made name Str (in_quotes (spelling arg)) hash.space []))
    (sym (ap (λ b. if b then note (flat_map (takes Stringized) arg) (made name Str (in_quotes (spelling arg)) hash.space []) else fail (BadPaste name.site)) e))
    (does_note w s0 s1 (flat_map (takes Stringized) arg) (made name Str (in_quotes (spelling arg)) hash.space []) s))

pub string_stops : (name hash : Token) (arg : List Token) (e : ExpandFault) → is_string (in_quotes (spelling arg)) ≡ false → e ≡ fault.BadPaste name.site → Stops (string_of name hash arg) e
string_stops name hash arg e f h =
    subst (λ m. Stops m e)
    (sym (ap (λ b. if b then note (flat_map (takes Stringized) arg) (made name Str (in_quotes (spelling arg)) hash.space []) else fail (BadPaste name.site)) f))
    (stops_fail (BadPaste name.site) e h)
