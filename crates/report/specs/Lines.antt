-- How long the lines of a report get, and the line of a found centre as the program puts it.
use Rattle.base_lists.specs.Kit.{ℕ}
unfoldable pub use Rattle.report_texts.specs.Texts.{line_text}

-- No line of an accepted board is longer: 6 + 3 + 1 bytes up to the colon, 512 nodes of 4, 2 for the slash, 4,096 links of 8, and 1.
abbrev pub longest_line : ℕ
longest_line = 34829

-- The line of a refused file has at most 8 bytes, a number of three digits, 8 for the file that is meant, and 1.
abbrev pub longest_refusal : ℕ
longest_refusal = 20
