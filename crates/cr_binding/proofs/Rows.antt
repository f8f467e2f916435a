-- Worked examples, computed. Tokens are told by their offsets.
use Rattle.std.specs.Prelude.{◌≡◌, refl, ℕ, Bool, true, false, ◌&&◌, ◌==◌, ◌+◌, is_none, Option, Some, None, option_map, List, [], ◌∷◌, codes, bytes_eq, filter, map, length, not, if◌then◌else◌, take}
use Rattle.std.specs.List.{list_any, list_all}
use Rattle.cr_base.specs.declared.cause.IllCause.{IllCause}
use Rattle.cr_base.specs.declared.cause.IllCause.TheVariants as cause
use Rattle.cr_base.specs.declared.key.TagKind.TheVariants as tag
use Rattle.cr_base.specs.declared.key.RecordKey.TheVariants as record_key
use Rattle.cr_base.specs.declared.key.Key.{Key}
use Rattle.cr_base.specs.declared.key.Key.TheVariants as key
use Rattle.cr_grammar.specs.Grammar.{rule}
use Rattle.cr_grammar.specs.Spellings.{spelled}
use Rattle.cr_decl.specs.Specifiers.{permitted}
use Rattle.cr_binding.specs.Source.{Source, token_of, text_at}
use Rattle.cr_binding.specs.State.{Use, WasAsked, State}
use Rattle.cr_binding.specs.WellFormed.{is_typedef_name}
use Rattle.cr_binding.specs.Resolution.{Occurrence, occurrences, resolution, answers}
use Rattle.cr_binding.specs.Keys.{key_of}
use Rattle.cr_binding.specs.Binding.{bound}
use Rattle.cr_binding.proofs.Reading.{source, parsed, place}

abbrev offset : Source → ℕ → ℕ
offset t i = (token_of t i).site.offset

-- the binding of a text with the tree that it has
abbrev binding : Source → State
binding t = bound t (parsed t).trees

-- the fault of a text, and where it is
abbrev at_offset : Source → Option (IllCause × ℕ) → Option (IllCause × ℕ)
at_offset t None = None
at_offset t (Some x) = Some (x.0, offset t x.1)

-- the asks are answered by what was declared before them
abbrev same_answer : Bool → Bool → Bool
same_answer true b = b
same_answer false b = not b

abbrev is_answered : Source → State → Use → Bool
is_answered t s (WasAsked i path before answer) = same_answer answer (is_typedef_name t path i (take before s.declarations))
is_answered t s _ = true

abbrev are_answered : Source → State → Bool
are_answered t s = list_all (is_answered t s) s.uses

abbrev fault_at : Source → Option (IllCause × ℕ)
fault_at t = if are_answered t (binding t) then at_offset t (binding t).fault else None

abbrev fault_of : List ℕ → Option (IllCause × ℕ)
unfolding rule spelled permitted
fault_of text = fault_at (source text)

-- Pairs of an identifier and the first declaration of what it means.
abbrev Pair : Type 0
Pair = ℕ × Option ℕ

abbrev same_offset : Option ℕ → Option ℕ → Bool
same_offset None None = true
same_offset (Some i) (Some j) = i == j
same_offset _ _ = false

abbrev same_pair : Pair → Pair → Bool
same_pair x y = x.0 == y.0 && same_offset x.1 y.1

abbrev are_among : List Pair → List Pair → Bool
are_among xs ys = list_all {X = Pair} (λ x. list_any (same_pair x) ys) xs

abbrev pairs : Source → List Pair
pairs t = map {A = Pair} (λ x. (offset t x.0, option_map (offset t) x.1)) (resolution t (binding t))

abbrev is_whole : Source → Bool
is_whole t = (parsed t).behind + 1 == length t.tokens

abbrev means_by : Source → List Pair → Bool
means_by t xs =
    is_none (binding t).fault
    && (is_whole t && (are_answered t (binding t) && (are_among (pairs t) xs && are_among xs (pairs t))))

-- the whole text is a unit without a fault, and its identifiers mean just this
abbrev means : List ℕ → List Pair → Bool
unfolding rule spelled permitted
means text xs = means_by (source text) xs

-- the identifiers of a name, with the keys of what they mean
abbrev keys_by : List ℕ → Source → List (ℕ × Key)
keys_by name t =
    map {A = Occurrence} (λ x. (offset t x.0, key_of 1 t (binding t) x.0 x.1)) (filter (λ x. bytes_eq (text_at t x.0) name) (occurrences (binding t)))

abbrev keys_of : (name text : List ℕ) → List (ℕ × Key)
unfolding rule spelled permitted
keys_of name text = keys_by name (source text)

-- braces of an inner record are left out, and a member of it is designated (C11 6.7.9p20)
elided_braces : fault_of (codes "struct p{int x;};struct a{struct p s;int t;};struct a v={1,{.x=2}};") ≡ Some (cause.Elision, 61)
unfolding rule spelled permitted
elided_braces = refl

-- an object and a function of one name in one scope (6.7p3)
an_object_and_a_function : fault_of (codes "int foo;int foo(void);") ≡ Some (cause.Redeclared, 12)
unfolding rule spelled permitted
an_object_and_a_function = refl

-- a name that isn't declared (6.5.1p2)
a_name_that_is_not_declared : fault_of (codes "int foo=x;") ≡ Some (cause.Unresolved, 8)
unfolding rule spelled permitted
a_name_that_is_not_declared = refl

-- specifiers of which no list has both (6.7.2p2)
words_that_no_list_has : fault_of (codes "int foo;float int y;") ≡ Some (cause.BadSpecifiers, 14)
unfolding rule spelled permitted
words_that_no_list_has = refl

-- a list of words that others go on with, at its last word (6.7.2p2)
a_list_that_is_not_whole : fault_of (codes "int _Complex x;") ≡ Some (cause.BadSpecifiers, 4)
unfolding rule spelled permitted
a_list_that_is_not_whole = refl

-- a member of what is no record (6.5.2.3p1)
a_member_of_a_number : fault_of (codes "int foo=foo.x;") ≡ Some (cause.NotRecord, 12)
unfolding rule spelled permitted
a_member_of_a_number = refl

-- a member of a record that isn't complete (6.7.2.1p8)
a_member_of_an_incomplete_record : fault_of (codes "int foo;struct s t;int z=t.q;") ≡ Some (cause.NoMember, 27)
unfolding rule spelled permitted
a_member_of_an_incomplete_record = refl

-- a negative is a number, whatever its operand (6.5.3.3)
a_member_of_a_negative : fault_of (codes "struct a{int x;};int f(struct a*p){return (-p)->x;}") ≡ Some (cause.NotRecord, 48)
unfolding rule spelled permitted
a_member_of_a_negative = refl

-- an `extern` that a local object hides the static one from has external linkage, against the static one (6.2.2p4, p7)
a_linkage_that_is_hidden : fault_of (codes "static int foo;int g(void){int foo;{extern int foo;}return foo;}") ≡ Some (cause.Redeclared, 47)
unfolding rule spelled permitted
a_linkage_that_is_hidden = refl

-- `static` behind a declaration with external linkage (6.2.2p7)
static_behind_extern : fault_of (codes "int f(void);static int f(void);") ≡ Some (cause.Redeclared, 23)
unfolding rule spelled permitted
static_behind_extern = refl

-- a member of a generic selection whose results have two types
a_member_of_two_types : fault_of (codes "struct a{int x;};struct b{int x;};int f(struct a*p,struct b*q,int c){return _Generic(c,int:p,default:q)->x;}") ≡ Some (cause.GenericType, 105)
unfolding rule spelled permitted
a_member_of_two_types = refl

-- a tag with two keywords (6.7.2.3p3)
one_tag_with_two_keywords : fault_of (codes "struct a{int x;};union a*p;") ≡ Some (cause.Redeclared, 23)
unfolding rule spelled permitted
one_tag_with_two_keywords = refl

-- a jump to an object's name, which is no label (6.8.6.1p1)
no_such_label : fault_of (codes "void f(void){int x;goto x;}") ≡ Some (cause.Unresolved, 24)
unfolding rule spelled permitted
no_such_label = refl

-- an anonymous record brings in a name that is there (6.7.2.1p13)
a_member_that_is_brought_in_twice : fault_of (codes "union u{int a;union{int b;int a;};};") ≡ Some (cause.Redeclared, 30)
unfolding rule spelled permitted
a_member_that_is_brought_in_twice = refl

-- a parameter of the name of a typedef hides that in the body (6.2.1p4)
a_parameter_hides_a_type : fault_of (codes "typedef int T;int a(T T);T b(T(T));int c(int(T)){return T;}int d(int x,int(*y)(T x,int T),T z){T T=x;return T+y(1,z);}struct m{T T;};void e(struct m*T){int x=T->T;(void)x;}") ≡ Some (cause.Unresolved, 56)
unfolding rule spelled permitted
a_parameter_hides_a_type = refl

-- the place behind an anonymous record is that of the next written member; behind a nested list it is unknown
a_place_behind_a_member : fault_of (codes "struct a{struct{int x;};int z;}v={{.x=1},2};struct b{int x;struct a y;}w={.y={{1}},{.x=2}};") ≡ Some (cause.Elision, 85)
unfolding rule spelled permitted
a_place_behind_a_member = refl

-- an inner declaration hides an outer one (6.2.1p4)
an_inner_name_hides : means (codes "int bar; int f(void){int foo=1;{int foo=2;return bar+foo;}}") ((4, Some 4) ∷ (13, Some 13) ∷ (25, Some 25) ∷ (36, Some 36) ∷ (49, Some 4) ∷ (53, Some 36) ∷ []) ≡ true
unfolding rule spelled permitted
an_inner_name_hides = refl

-- a tag, a typedef name and a member of one name (6.2.3)
three_name_spaces : means (codes "typedef struct node node; struct list { node *node; };") ((15, Some 15) ∷ (20, Some 20) ∷ (33, Some 33) ∷ (40, Some 20) ∷ (46, Some 46) ∷ []) ≡ true
unfolding rule spelled permitted
three_name_spaces = refl

-- a parameter's name in parentheses
a_parameter_in_parentheses : means (codes "typedef int bar; int f(int (foo));") ((12, Some 12) ∷ (21, Some 21) ∷ (28, Some 28) ∷ []) ≡ true
unfolding rule spelled permitted
a_parameter_in_parentheses = refl

-- members of an anonymous structure in a union (6.7.2.1p13)
spliced_members : means (codes "union u{struct{int x;}; int z;}; int f(union u*p){return p->x;} union u v={{1}};") ((6, Some 6) ∷ (19, Some 19) ∷ (28, Some 28) ∷ (37, Some 37) ∷ (45, Some 6) ∷ (47, Some 47) ∷ (57, Some 47) ∷ (60, Some 19) ∷ (70, Some 6) ∷ (72, Some 72) ∷ []) ≡ true
unfolding rule spelled permitted
spliced_members = refl

-- a function by a pointer, a tag in a parameter list, a label behind its jump, type names of a generic selection
types_labels_and_associations : means (codes "typedef int T; int *(*f)(T); int h(struct a*x){struct a{T T;}; goto l; l: return sizeof(T)+_Generic(x,T:1,int*:2);}") ((12, Some 12) ∷ (22, Some 22) ∷ (25, Some 12) ∷ (33, Some 33) ∷ (42, Some 42) ∷ (44, Some 44) ∷ (54, Some 42) ∷ (56, Some 12) ∷ (58, Some 58) ∷ (68, Some 71) ∷ (71, Some 71) ∷ (88, Some 12) ∷ (100, Some 44) ∷ (102, Some 12) ∷ []) ≡ true
unfolding rule spelled permitted
types_labels_and_associations = refl

-- designators, elements, and lists in braces (6.7.9)
initialisers : means (codes "struct p{int x,y;};struct a{struct p s[2];struct{int u;union{int v;float w;};};int t;};struct a v={.s={[1]={.x=1,2},{.y=3}},.u=4,.w=115};struct a w={{{1,2}},.t=3};struct p q[]={{1},[3]={.y=2}};") ((7, Some 7) ∷ (13, Some 13) ∷ (15, Some 15) ∷ (26, Some 26) ∷ (35, Some 7) ∷ (37, Some 37) ∷ (53, Some 53) ∷ (65, Some 65) ∷ (73, Some 73) ∷ (83, Some 83) ∷ (94, Some 26) ∷ (96, Some 96) ∷ (100, Some 37) ∷ (109, Some 13) ∷ (118, Some 15) ∷ (125, Some 53) ∷ (130, Some 73) ∷ (144, Some 26) ∷ (146, Some 146) ∷ (158, Some 83) ∷ (170, Some 7) ∷ (172, Some 172) ∷ (187, Some 15) ∷ []) ≡ true
unfolding rule spelled permitted
initialisers = refl

-- a body that shares its parameters' scope, labels, scopes of statements, and what the compiler supplies
bodies_and_labels : means (codes "int f(int x){int y=x;again:if(x>0){int y=x-1;x=y;goto again;}else{typedef int x;x z=0;return z+y;}for(int i=0;i<y;i++){y+=i;}goto end;end:return __func__[0]+__builtin_abs(y);}") ((4, Some 4) ∷ (10, Some 10) ∷ (17, Some 17) ∷ (19, Some 10) ∷ (21, Some 21) ∷ (30, Some 10) ∷ (39, Some 39) ∷ (41, Some 10) ∷ (45, Some 10) ∷ (47, Some 39) ∷ (54, Some 21) ∷ (78, Some 78) ∷ (80, Some 78) ∷ (82, Some 82) ∷ (93, Some 82) ∷ (95, Some 17) ∷ (106, Some 106) ∷ (110, Some 106) ∷ (112, Some 17) ∷ (114, Some 106) ∷ (119, Some 17) ∷ (122, Some 106) ∷ (130, Some 134) ∷ (134, Some 134) ∷ (145, None) ∷ (157, None) ∷ (171, Some 17) ∷ []) ≡ true
unfolding rule spelled permitted
bodies_and_labels = refl

-- declarations of one object or function in several scopes (6.2.2)
linkage : means (codes "static int f(void);int f(void){extern int g;return g;}int g;extern int h;int h=1;static int s;int k(void){extern int s;{int s=1;return s+h;}}int k();") ((11, Some 11) ∷ (23, Some 11) ∷ (42, Some 42) ∷ (51, Some 42) ∷ (58, Some 42) ∷ (71, Some 71) ∷ (77, Some 71) ∷ (92, Some 92) ∷ (98, Some 98) ∷ (117, Some 92) ∷ (124, Some 124) ∷ (135, Some 124) ∷ (137, Some 71) ∷ (145, Some 98) ∷ []) ≡ true
unfolding rule spelled permitted
linkage = refl

-- tags that are used, declared alone and completed in several scopes (6.7.2.3)
tags : means (codes "struct s;struct t{struct s*p;struct t*q;struct u{int a;}r;};struct u z;enum e{A,B=A+1,C=sizeof(enum x{D=B})};enum e m=C;struct s{enum e n;int b:D;};void f(struct s*w,struct v*o){struct s;struct s*q;struct s{int a;}y;q=&y;q->a=w->n;{struct v*x=0;}}") ((7, Some 7) ∷ (16, Some 16) ∷ (25, Some 7) ∷ (27, Some 27) ∷ (36, Some 16) ∷ (38, Some 38) ∷ (47, Some 47) ∷ (53, Some 53) ∷ (56, Some 56) ∷ (67, Some 47) ∷ (69, Some 69) ∷ (76, Some 76) ∷ (78, Some 78) ∷ (80, Some 80) ∷ (82, Some 78) ∷ (86, Some 86) ∷ (100, Some 100) ∷ (102, Some 102) ∷ (104, Some 80) ∷ (114, Some 76) ∷ (116, Some 116) ∷ (118, Some 86) ∷ (127, Some 7) ∷ (134, Some 76) ∷ (136, Some 136) ∷ (142, Some 142) ∷ (144, Some 102) ∷ (153, Some 153) ∷ (162, Some 7) ∷ (164, Some 164) ∷ (173, Some 173) ∷ (175, Some 175) ∷ (185, Some 185) ∷ (194, Some 185) ∷ (196, Some 196) ∷ (205, Some 185) ∷ (211, Some 211) ∷ (214, Some 214) ∷ (216, Some 196) ∷ (219, Some 214) ∷ (221, Some 196) ∷ (224, Some 211) ∷ (226, Some 164) ∷ (229, Some 136) ∷ (239, Some 173) ∷ (241, Some 241) ∷ []) ≡ true
unfolding rule spelled permitted
tags = refl

-- a member of each sort of expression (6.5)
types_of_expressions : means (codes "struct r{int m;struct r*n;int a[3];int(*f)(void);};struct r g(int);struct r*h[2];typedef struct r R;typedef R*P;int k(P p,R q[],int c){return g(1).m+h[0]->n->m+(*h)->m+(c?p:0)->m+q[1].a[2]+(p+1)->m+(1+p)->m+(&q[0])->m+((R*)0)->m+(R){1}.m+_Generic(c,int:*p,default:q[0]).m+p++->m+(c,p)->m+(p=q)->m+sizeof(struct r)+__builtin_offsetof(R,n)+p->f();}") ((7, Some 7) ∷ (13, Some 13) ∷ (22, Some 7) ∷ (24, Some 24) ∷ (30, Some 30) ∷ (40, Some 40) ∷ (58, Some 7) ∷ (60, Some 60) ∷ (74, Some 7) ∷ (76, Some 76) ∷ (96, Some 7) ∷ (98, Some 98) ∷ (108, Some 98) ∷ (110, Some 110) ∷ (116, Some 116) ∷ (118, Some 110) ∷ (120, Some 120) ∷ (122, Some 98) ∷ (124, Some 124) ∷ (132, Some 132) ∷ (142, Some 60) ∷ (147, Some 13) ∷ (149, Some 76) ∷ (155, Some 24) ∷ (158, Some 13) ∷ (162, Some 76) ∷ (166, Some 13) ∷ (169, Some 132) ∷ (171, Some 120) ∷ (177, Some 13) ∷ (179, Some 124) ∷ (184, Some 30) ∷ (190, Some 120) ∷ (196, Some 13) ∷ (201, Some 120) ∷ (205, Some 13) ∷ (209, Some 124) ∷ (216, Some 13) ∷ (220, Some 98) ∷ (227, Some 13) ∷ (230, Some 98) ∷ (236, Some 13) ∷ (247, Some 132) ∷ (254, Some 120) ∷ (264, Some 124) ∷ (270, Some 13) ∷ (272, Some 120) ∷ (277, Some 13) ∷ (280, Some 132) ∷ (282, Some 120) ∷ (286, Some 13) ∷ (289, Some 120) ∷ (291, Some 124) ∷ (295, Some 13) ∷ (311, Some 7) ∷ (333, Some 98) ∷ (335, Some 24) ∷ (338, Some 120) ∷ (341, Some 40) ∷ []) ≡ true
unfolding rule spelled permitted
types_of_expressions = refl

-- enumerators of an enumeration within another one's (6.7.2.2)
enumerators : means (codes "struct a{enum e{A,B=sizeof(enum g{C})}x;int y;}v;int f(void){return v.y+A+C;}") ((7, Some 7) ∷ (14, Some 14) ∷ (16, Some 16) ∷ (18, Some 18) ∷ (32, Some 32) ∷ (34, Some 34) ∷ (38, Some 38) ∷ (44, Some 44) ∷ (47, Some 47) ∷ (53, Some 53) ∷ (68, Some 47) ∷ (70, Some 44) ∷ (72, Some 16) ∷ (74, Some 34) ∷ []) ≡ true
unfolding rule spelled permitted
enumerators = refl

-- `_Atomic` with and without a type name (6.7.2.4)
atomic_types : means (codes "struct q{int z;};_Atomic(struct q*)p;int _Atomic k;int f(void){return p->z+k;}") ((7, Some 7) ∷ (13, Some 13) ∷ (32, Some 7) ∷ (35, Some 35) ∷ (49, Some 49) ∷ (55, Some 55) ∷ (70, Some 35) ∷ (73, Some 13) ∷ (75, Some 49) ∷ []) ≡ true
unfolding rule spelled permitted
atomic_types = refl

-- tokens in the brackets of attributes mean nothing
attributes : means (codes "struct __attribute__((packed,struct))a{int x;}__attribute__((foo(x)));int f(struct a*p __attribute__((unused)))__attribute__((static));int f(struct a*p){return p->x;}") ((37, Some 37) ∷ (43, Some 43) ∷ (74, Some 74) ∷ (83, Some 37) ∷ (85, Some 85) ∷ (139, Some 74) ∷ (148, Some 37) ∷ (150, Some 150) ∷ (160, Some 150) ∷ (163, Some 43) ∷ []) ≡ true
unfolding rule spelled permitted
attributes = refl

-- unary and binary operators of each sort
operators : means (codes "int f(void){int x,*y;struct{int m;}s,*t=&s;return sizeof x+sizeof(x)+(x)-(int)-x+(*t).m+(t)->m+-x*+x+!y+~x+y[0]+0[y]+_Alignof(int)+__builtin_va_arg(y,int);}") ((4, Some 4) ∷ (16, Some 16) ∷ (19, Some 19) ∷ (32, Some 32) ∷ (35, Some 35) ∷ (38, Some 38) ∷ (41, Some 35) ∷ (57, Some 16) ∷ (66, Some 16) ∷ (70, Some 16) ∷ (79, Some 16) ∷ (83, Some 38) ∷ (86, Some 32) ∷ (89, Some 38) ∷ (93, Some 32) ∷ (96, Some 16) ∷ (99, Some 16) ∷ (102, Some 19) ∷ (105, Some 16) ∷ (107, Some 19) ∷ (114, Some 19) ∷ (148, Some 19) ∷ []) ≡ true
unfolding rule spelled permitted
operators = refl

-- a parameter hides a typedef name, and a typedef in the body an outer one
a_typedef_over_a_parameter : means (codes "typedef int foo;int f(int(foo)){int bar=1;{typedef int z;z foo=bar;return foo;}}") ((12, Some 12) ∷ (20, Some 20) ∷ (26, Some 12) ∷ (36, Some 36) ∷ (55, Some 55) ∷ (57, Some 55) ∷ (59, Some 59) ∷ (63, Some 36) ∷ (74, Some 59) ∷ []) ≡ true
unfolding rule spelled permitted
a_typedef_over_a_parameter = refl

-- one name in a block, in a record and at file scope
names_elsewhere : means (codes "int bar;int f(void){int foo;{int bar;return foo;}}struct m{int foo;int bar;};int foo(void);") ((4, Some 4) ∷ (12, Some 12) ∷ (24, Some 24) ∷ (33, Some 33) ∷ (44, Some 24) ∷ (57, Some 57) ∷ (63, Some 63) ∷ (71, Some 71) ∷ (81, Some 81) ∷ []) ≡ true
unfolding rule spelled permitted
names_elsewhere = refl

-- a tag that is completed in its own members (6.7.2.3p1)
a_tag_in_its_own_definition : fault_of (codes "struct s{struct s{int x;}y;};") ≡ Some (cause.Redeclared, 16)
unfolding rule spelled permitted
a_tag_in_its_own_definition = refl

-- two enumerators of one name (6.7p3)
two_enumerators : fault_of (codes "enum a{A};enum b{A};") ≡ Some (cause.Redeclared, 17)
unfolding rule spelled permitted
two_enumerators = refl

-- two labels of one name in a function (6.8.1p3)
two_labels : fault_of (codes "void f(void){{l:;}l:;}") ≡ Some (cause.Redeclared, 18)
unfolding rule spelled permitted
two_labels = refl

-- two members of one name (6.2.3)
two_members : fault_of (codes "struct s{int a;int a;};") ≡ Some (cause.Redeclared, 19)
unfolding rule spelled permitted
two_members = refl

-- a jump to no label is found at the end of its function
a_fault_before_a_jump : fault_of (codes "void f(void){goto l;x;}") ≡ Some (cause.Unresolved, 20)
unfolding rule spelled permitted
a_fault_before_a_jump = refl

-- a typedef name without a declarator declares no member
a_typedef_name_is_no_member : fault_of (codes "typedef struct{int x;}T;struct a{T;int y;};int f(struct a*p){return p->x;}") ≡ Some (cause.NoMember, 71)
unfolding rule spelled permitted
a_typedef_name_is_no_member = refl

-- two storage words (6.7.1p2)
two_storage_words : fault_of (codes "typedef static int x;") ≡ Some (cause.BadSpecifiers, 8)
unfolding rule spelled permitted
two_storage_words = refl

-- a body behind a declarator without parameters
no_parameters : fault_of (codes "int x{}") ≡ Some (cause.Syntax, 5)
unfolding rule spelled permitted
no_parameters = refl

-- a member of a scalar in braces
a_member_of_a_scalar : fault_of (codes "int x={{.m=1}};") ≡ Some (cause.NotRecord, 9)
unfolding rule spelled permitted
a_member_of_a_scalar = refl

-- what is behind the one item for a scalar is unknown
behind_a_scalar : fault_of (codes "int x={1,{.m=2}};") ≡ Some (cause.Elision, 11)
unfolding rule spelled permitted
behind_a_scalar = refl

-- a typedef name is no value (6.5.1p2)
a_type_in_an_expression : fault_of (codes "typedef int T;int x=sizeof T;") ≡ Some (cause.Unresolved, 27)
unfolding rule spelled permitted
a_type_in_an_expression = refl

-- a callee that isn't declared (6.5.2.2)
an_undeclared_callee : fault_of (codes "int f(void){return g();}") ≡ Some (cause.Unresolved, 19)
unfolding rule spelled permitted
an_undeclared_callee = refl

-- a body's outermost declarations share the parameters' scope (6.2.1p4)
a_parameter_and_a_local : fault_of (codes "int f(int a){int a;}") ≡ Some (cause.Redeclared, 17)
unfolding rule spelled permitted
a_parameter_and_a_local = refl

-- a text without tokens
nothing : means (codes "") ([]) ≡ true
unfolding rule spelled permitted
nothing = refl

-- `_Thread_local` stands beside `static` (6.7.1p2)
static_thread_local : means (codes "static _Thread_local int x;") ((25, Some 25) ∷ []) ≡ true
unfolding rule spelled permitted
static_thread_local = refl

-- in a body `__func__` is built in, whatever is declared (6.4.2.2)
a_declared_function_name : means (codes "int __func__;int f(void){return __func__;}") ((4, Some 4) ∷ (17, Some 17) ∷ (32, None) ∷ []) ≡ true
unfolding rule spelled permitted
a_declared_function_name = refl

-- the suffix nearest to the name has the scope of the body
a_pointer_with_a_body : means (codes "int(*f)(int a){return a;}") ((5, Some 5) ∷ (12, Some 12) ∷ (22, Some 12) ∷ []) ≡ true
unfolding rule spelled permitted
a_pointer_with_a_body = refl

-- the place behind an anonymous record is that of the next written member (6.7.9p17)
anonymous_in_place : means (codes "struct a{struct{int x;};struct{int m;}z;}v={{.x=1},{.m=2}};") ((7, Some 7) ∷ (20, Some 20) ∷ (35, Some 35) ∷ (38, Some 38) ∷ (41, Some 41) ∷ (46, Some 20) ∷ (53, Some 35) ∷ []) ≡ true
unfolding rule spelled permitted
anonymous_in_place = refl

-- members and elements in an offset
offset_of : means (codes "struct b{int m;};struct a{struct b k[2];};int o=__builtin_offsetof(struct a,k[1].m);") ((7, Some 7) ∷ (13, Some 13) ∷ (24, Some 24) ∷ (33, Some 7) ∷ (35, Some 35) ∷ (46, Some 46) ∷ (74, Some 24) ∷ (76, Some 35) ∷ (81, Some 13) ∷ []) ≡ true
unfolding rule spelled permitted
offset_of = refl

-- ---- keys

three_keys_of_one_name : keys_of (codes "node") (codes "typedef struct node node; struct list { node *node; };")
    ≡ (15, key.Tag tag.Struct (codes "node")) ∷ (20, key.At (place 20)) ∷ (46, key.Member (record_key.Tag tag.Struct (codes "list")) (codes "node")) ∷ (40, key.At (place 20)) ∷ []
unfolding rule spelled permitted
three_keys_of_one_name = refl

a_tag_of_a_block : keys_of (codes "a") (codes "void f(void){struct a{int m;};}") ≡ (20, key.At (place 20)) ∷ []
unfolding rule spelled permitted
a_tag_of_a_block = refl

a_member_of_a_tag_of_a_block : keys_of (codes "m") (codes "void f(void){struct a{int m;};}") ≡ (26, key.Member (record_key.At (place 20)) (codes "m")) ∷ []
unfolding rule spelled permitted
a_member_of_a_tag_of_a_block = refl

-- a record without a tag has the place of its brace
a_member_of_an_anonymous_record : keys_of (codes "m") (codes "union{struct{int m;};}x;") ≡ (17, key.Member (record_key.At (place 12)) (codes "m")) ∷ []
unfolding rule spelled permitted
a_member_of_an_anonymous_record = refl

-- external linkage, and internal linkage
functions : keys_of (codes "f") (codes "int f(void);static int g(void){return f();}") ≡ (4, key.Ext (codes "f")) ∷ (38, key.Ext (codes "f")) ∷ []
unfolding rule spelled permitted
functions = refl

a_static_function : keys_of (codes "g") (codes "static int g(void);static int g(void){return 0;}") ≡ (11, key.At (place 11)) ∷ (30, key.At (place 11)) ∷ []
unfolding rule spelled permitted
a_static_function = refl

a_label : keys_of (codes "l") (codes "void f(void){goto l;l:;}") ≡ (20, key.At (place 20)) ∷ (18, key.At (place 20)) ∷ []
unfolding rule spelled permitted
a_label = refl

-- what the compiler supplies is another thing at each token: here the seventh
a_built_in : keys_of (codes "__func__") (codes "int f(void){return __func__;}") ≡ (19, key.Made 1 7) ∷ []
unfolding rule spelled permitted
a_built_in = refl

-- ---- answers

abbrev answers_by : Source → List (ℕ × Bool)
answers_by t = map {A = ℕ × Bool} (λ x. (offset t x.0, x.1)) (answers (binding t))

-- each asked token, with the answer
abbrev answers_of : List ℕ → List (ℕ × Bool)
unfolding rule spelled permitted
answers_of text = answers_by (source text)

-- T is asked behind the parenthesis, and then as a specifier
a_type_name_and_a_parameter : answers_of (codes "typedef int T;int c(int(T));int d(int T){return T;}") ≡ (24, true) ∷ (24, true) ∷ []
unfolding rule spelled permitted
a_type_name_and_a_parameter = refl

-- x is asked as the first token of a statement, and behind a parenthesis where a type name could stand
an_object_in_a_statement : answers_of (codes "int x;void f(void){x=(x);}") ≡ (19, false) ∷ (22, false) ∷ []
unfolding rule spelled permitted
an_object_in_a_statement = refl
