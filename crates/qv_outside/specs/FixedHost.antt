-- The table of a host that always gives one word, and the word.
use Rattle.std.specs.Prelude.{ℕ}
use Rattle.qv_outside.specs.Hosts.{Table, table_in}
use Rattle.qv_outside.specs.declared.fixed_host.FixedHost.{FixedHost}

abbrev pub table_of : FixedHost → Table
table_of h = table_in h.sigs.items

abbrev pub word_of : FixedHost → ℕ
word_of h = h.word
