-- Sizes of code with its padding.
use Rattle.std.proofs.Common.{◌≤◌, ℕ, ◌+◌, ◌-◌, ◌*◌, ◌%◌, ◌^◌, List, length, arith, length-append}
use Rattle.std.proofs.lemmas.List.{length-replicate}
use Rattle.qv_ops.specs.declared.instr.Instr.{Instr}
use Rattle.qv_ops.specs.Code.{code_bytes}
use Rattle.qv_ops.proofs.Sizes.{length-code_bytes, length-code_bytes-le}
use Rattle.qv_image.specs.Image.{padding, padded_code}

pub length-padded_code : (code : List Instr) → length code ≤ length (padded_code code)
length-padded_code code = omega (arith, length-code_bytes code, length-append (code_bytes code) (padding (code_bytes code)))

pub length-padding-le : (bytes : List ℕ) → length (padding bytes) ≤ 3
length-padding-le bytes =
    let zero_byte : ℕ = 0 in
    omega (arith, length-replicate ((4 - length bytes % 4) % 4) zero_byte)

pub length-padded_code-le : (code : List Instr) → length (padded_code code) ≤ 5 * length code + 3
length-padded_code-le code =
    omega (arith, length-code_bytes-le code, length-padding-le (code_bytes code), length-append (code_bytes code) (padding (code_bytes code)))

-- code within the limit stays within it with its padding
pub length-padded_code-fits : (code : List Instr) → length (code_bytes code) ≤ 2 ^ 27 → length (padded_code code) ≤ 2 ^ 27
length-padded_code-fits code h =
    let zero_byte : ℕ = 0 in
    omega (arith, h, length-append (code_bytes code) (padding (code_bytes code)), length-replicate ((4 - length (code_bytes code) % 4) % 4) zero_byte)
