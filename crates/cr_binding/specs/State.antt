-- What is known of a translation unit after some of its tokens and actions.
use Rattle.std.specs.Prelude.{ℕ, Bool, false, List, [], Option, None}
use Rattle.cr_base.specs.declared.Kind.{Kind}
use Rattle.cr_base.specs.declared.Kind.TheVariants as kind
use Rattle.cr_base.specs.declared.cause.IllCause.{IllCause}
use Rattle.cr_ll.specs.Derivation.{Trees, none}
use Rattle.cr_scope.specs.declared.Space.{Space}
use Rattle.cr_scope.specs.declared.Linkage.{Linkage}
use Rattle.cr_types.specs.Types.{CType, Void}
use Rattle.cr_decl.specs.Specifiers.{Specifiers, no_words}
use Rattle.cr_typing.specs.Initialisers.{Braces}

-- A declaration: the path of its scope, its name space, its token, which has its spelling, its kind, linkage and type.
-- A tag has the type that it names.
pub record Declaration : Type 0 where
  pub path : List ℕ
  pub space : Space
  pub token : ℕ
  pub kind : Kind
  pub linkage : Linkage
  pub type : CType

-- A structure or union: the first token that declares its tag, or its brace where it has none. Records are numbered in the
-- order in which they are met; the type of record number n is `Rec n`.
pub record Record : Type 0 where
  pub token : ℕ
  pub is_union : Bool

-- a member as it is written in a record, named or anonymous
pub record Written : Type 0 where
  pub holder : ℕ
  pub type : CType

-- A name that selects a member in the record `holder`. The member is written in the record `own`, which is another one
-- where an anonymous record brought it in (C11 6.7.2.1p13), as number `place` of those that are written there.
pub record Member : Type 0 where
  pub holder : ℕ
  pub own : ℕ
  pub place : ℕ
  pub token : ℕ
  pub type : CType

-- What an identifier does that isn't the declaration of a name, and what was asked of it. A name that is looked up stands
-- in the scope of a path behind a number of declarations, and denotes one of them by number, or none.
pub data Use : Type 0 where
  LookedUp : Space → (token : ℕ) → (path : List ℕ) → (before : ℕ) → (denoted : Option ℕ) → Use
  GoesTo : (token : ℕ) → (label : ℕ) → Use
  Selects : (token : ℕ) → (member : ℕ) → Use
  IsBuiltIn : (token : ℕ) → Use
  IsParameter : (token : ℕ) → Use
  WasAsked : (token : ℕ) → (path : List ℕ) → (before : ℕ) → (answer : Bool) → Use

-- what an initialiser is for: a whole object, or the next item of a list in braces
pub data Target : Type 0 where
  Whole : CType → Target
  Within : Braces → Target

-- What a declaration gathers from its specifiers and its declarator.
pub record Pending : Type 0 where
  -- its words, and the token of the last one that names a basic type
  pub specifiers : Specifiers
  pub last_basic : ℕ
  -- the type that is specified otherwise; whether a record without a tag is
  pub base : Option CType
  pub is_untagged : Bool
  -- the name's token, and the scope of the function suffix nearest to the name
  pub name : Option ℕ
  pub parameters : Option ℕ

abbrev pub nothing_pending : Pending
nothing_pending =
    record { specifiers = no_words; last_basic = 0; base = None; is_untagged = false; name = None; parameters = None }

-- The fields up to `fault` are the unit's: they only grow. The others belong to the place that is reached.
pub record State : Type 0 where
  pub declarations : List Declaration
  pub uses : List Use
  pub records : List Record
  pub written : List Written
  pub members : List Member
  -- the first tokens of tags that were completed, and the numbers of records whose members ended
  pub completed : List ℕ
  pub ended : List ℕ
  -- the tokens in the brackets of attributes
  pub hidden : List ℕ
  pub fault : Option (IllCause × ℕ)
  -- how many scopes were entered, and the path of the present one
  pub scopes : ℕ
  pub present : List ℕ
  -- whether a function's body is read, and the names of its `goto`s
  pub in_body : Bool
  pub jumps : List ℕ
  -- the last token, and what the node that ended last has below it
  pub last : ℕ
  pub closed : Trees
  pub pending : Pending
  -- the token of the last basic type word of a list that isn't permitted
  pub refused : Option ℕ
  -- the kind of tag that a keyword announced, and the record whose members are read
  pub keyword : Kind
  pub filled : Option ℕ
  -- the types of the operands that wait for an operator, the last one first
  pub values : List CType
  pub target : Target

abbrev pub start : State
start =
    record {
      declarations = [];
      uses = [];
      records = [];
      written = [];
      members = [];
      completed = [];
      ended = [];
      hidden = [];
      fault = None;
      scopes = 0;
      present = [];
      in_body = false;
      jumps = [];
      last = 0;
      closed = none;
      pending = nothing_pending;
      refused = None;
      keyword = kind.Struct;
      filled = None;
      values = [];
      target = Whole Void;
    }
