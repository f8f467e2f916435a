-- The built-in headers: own rule of this project, a small part of what C11 clause 7 asks of them.
use Rattle.std.specs.Prelude.{ℕ, Bool, List, [], ◌∷◌, bytes_eq, codes}
use Rattle.std.specs.List.{list_any}
use Rattle.cr_snapshot.specs.declared.header.Header.{Header}
use Rattle.cr_snapshot.specs.declared.header.Header.TheVariants as header

abbrev pub headers : List Header
headers = header.Stddef ∷ header.Stdint ∷ header.Stdbool ∷ header.Stdarg ∷ header.Limits ∷ header.Errno ∷ header.String ∷ header.Stdlib ∷ header.Stdio ∷ header.Assert ∷ []

abbrev pub name_of : Header → List ℕ
name_of header.Stddef = codes "stddef.h"
name_of header.Stdint = codes "stdint.h"
name_of header.Stdbool = codes "stdbool.h"
name_of header.Stdarg = codes "stdarg.h"
name_of header.Limits = codes "limits.h"
name_of header.Errno = codes "errno.h"
name_of header.String = codes "string.h"
name_of header.Stdlib = codes "stdlib.h"
name_of header.Stdio = codes "stdio.h"
name_of header.Assert = codes "assert.h"

unfoldable pub text_of : Header → List ℕ
text_of header.Stddef = codes "#pragma once\ntypedef long ptrdiff_t;\ntypedef unsigned long size_t;\ntypedef int wchar_t;\n#define NULL ((void*)0)\n#define offsetof(t,m) __builtin_offsetof(t,m)\n"
text_of header.Stdint = codes "#pragma once\ntypedef signed char int8_t;\ntypedef short int16_t;\ntypedef int int32_t;\ntypedef long int64_t;\ntypedef unsigned char uint8_t;\ntypedef unsigned short uint16_t;\ntypedef unsigned int uint32_t;\ntypedef unsigned long uint64_t;\ntypedef long intptr_t;\ntypedef unsigned long uintptr_t;\n"
text_of header.Stdbool = codes "#pragma once\n#define bool _Bool\n#define true 1\n#define false 0\n"
text_of header.Stdarg = codes "#pragma once\ntypedef __builtin_va_list va_list;\n#define va_start(a,n) __builtin_va_start(a,n)\n#define va_arg(a,t) __builtin_va_arg(a,t)\n#define va_end(a) __builtin_va_end(a)\n"
text_of header.Limits = codes "#pragma once\n#define CHAR_BIT 8\n#define INT_MAX 2147483647\n#define INT_MIN (-INT_MAX-1)\n#define UINT_MAX 4294967295U\n"
text_of header.Errno = codes "#pragma once\nextern int errno;\n"
text_of header.String = codes "#pragma once\n#include <stddef.h>\nvoid *memcpy(void*,const void*,size_t);\nvoid *memset(void*,int,size_t);\nint memcmp(const void*,const void*,size_t);\nsize_t strlen(const char*);\nchar *strcpy(char*,const char*);\nint strcmp(const char*,const char*);\nchar *strchr(const char*,int);\n"
text_of header.Stdlib = codes "#pragma once\n#include <stddef.h>\nvoid *malloc(size_t);\nvoid *calloc(size_t,size_t);\nvoid *realloc(void*,size_t);\nvoid free(void*);\nvoid exit(int);\nvoid abort(void);\nint atoi(const char*);\n"
text_of header.Stdio = codes "#pragma once\n#include <stddef.h>\ntypedef struct __crename_file FILE;\nextern FILE *stdin,*stdout,*stderr;\nint printf(const char*,...);\nint fprintf(FILE*,const char*,...);\nint snprintf(char*,size_t,const char*,...);\nint puts(const char*);\nFILE *fopen(const char*,const char*);\nint fclose(FILE*);\nint fgetc(FILE*);\n"
text_of header.Assert = codes "void __crename_fail(void);\n#undef assert\n#ifdef NDEBUG\n#define assert(e) ((void)0)\n#else\n#define assert(e) ((e)?(void)0:__crename_fail())\n#endif\n"

-- one of them has this name
unfoldable pub is_built_in : List ℕ → Bool
is_built_in name = list_any (λ header. bytes_eq (name_of header) name) headers
