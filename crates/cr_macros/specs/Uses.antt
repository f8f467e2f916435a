-- One use of a rule of expansion at the head of a list: what it puts in the place of the head, and what comes behind.
use Rattle.std.specs.Prelude.{Bool, true, false, List, [], ◌∷◌}
use Rattle.cr_base.specs.declared.cause.Role.TheVariants.{MacroName}
use Rattle.cr_macros.specs.Tokens.{Token, Rule, takes, both, with_name, Work, ◌>>=◌, fail, note, pay}
use Rattle.cr_macros.specs.Substitution.{body_items, made, subst}
use Rattle.cr_macros.specs.Expansion.{Table, Use, Keep, Predefined, Object, Call, Wrong, expanded, put_in, expand}

-- the tokens that stand for the head t
abbrev pub put_for : Table → Token → Use → Work (List Token)
put_for table t Keep = note (Rule ∷ []) (t ∷ [])
put_for table t (Predefined kind text) = note (takes MacroName t) (made t kind text t.space [] ∷ []) >>= pay 2
put_for table t (Object m) = subst t m [] [] (with_name t.text t.hide) >>= put_in
put_for table t (Call m args close after) =
    expanded (expand table) (body_items m) 0 args
    >>= λ fulls. subst t m args fulls (with_name t.text (both t.hide close.hide))
    >>= put_in
put_for table t (Wrong cause) = fail cause

-- they are tokens of the result, and aren't expanded again
abbrev pub is_given : Use → Bool
is_given Keep = true
is_given (Predefined kind text) = true
is_given (Object m) = false
is_given (Call m args close after) = false
is_given (Wrong cause) = false

-- what comes behind them, where `rest` comes behind the head
abbrev pub left_behind : List Token → Use → List Token
left_behind rest Keep = rest
left_behind rest (Predefined kind text) = rest
left_behind rest (Object m) = rest
left_behind rest (Call m args close after) = after
left_behind rest (Wrong cause) = rest
