-- The built-in headers have different names, and none of them counts.
use Rattle.std.proofs.Common.{◌≡◌, ℕ, zero, suc, ◌<◌, map, take, get_or, refl, arith}
use Rattle.cr_snapshot.specs.declared.header.Header.{Header}
use Rattle.cr_snapshot.specs.BuiltIns.{headers}
use Rattle.cr_snapshot.specs.Files.{Unknown, finding, built_in}

pub new_header : (i : ℕ) (d : Header) → i < 10 → finding (built_in (get_or headers i d)).path (map built_in (take i headers)) ≡ Unknown
new_header zero d h = refl
new_header (suc zero) d h = refl
new_header (suc (suc zero)) d h = refl
new_header (suc (suc (suc zero))) d h = refl
new_header (suc (suc (suc (suc zero)))) d h = refl
new_header (suc (suc (suc (suc (suc zero))))) d h = refl
new_header (suc (suc (suc (suc (suc (suc zero)))))) d h = refl
new_header (suc (suc (suc (suc (suc (suc (suc zero))))))) d h = refl
new_header (suc (suc (suc (suc (suc (suc (suc (suc zero)))))))) d h = refl
new_header (suc (suc (suc (suc (suc (suc (suc (suc (suc zero))))))))) d h = refl
new_header (suc (suc (suc (suc (suc (suc (suc (suc (suc (suc i)))))))))) d h = absurd (omega arith)
