-- The header of an image's file.
use Rattle.std.specs.Prelude.{ℕ, ◌*◌, List, drop}
use Rattle.qv_ops.specs.Code.{word_in}
use Rattle.qv_image.specs.declared.header.Header.{Header}

-- a word of the header by its number, from 0 on
abbrev pub header_word : List ℕ → ℕ → ℕ
header_word bytes k = word_in (drop (4 * k) bytes)

abbrev pub header_of : List ℕ → Header
header_of bytes = record {
  magic = header_word bytes 0;
  count = header_word bytes 1;
  code_offset = header_word bytes 2;
  code_len = header_word bytes 3;
  data_offset = header_word bytes 4;
  data_len = header_word bytes 5;
  lit_len = header_word bytes 6;
  bss_len = header_word bytes 7;
}
