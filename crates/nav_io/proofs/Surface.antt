-- What proofs of other crates cite: the lines of bytes, piece by piece, how many end in a prefix, and successive calls of a reader.
pub use Rattle.nav_io.proofs.LineCounts.{IsPrefixOf, ended_before, lines_length, lines_prefix, no_lines, no_pieces, prefix_within, recent_ended, recent_lines, recent_within, sum_pieces}
pub use Rattle.nav_io.proofs.LineLaws.{pieces-line}
pub use Rattle.nav_io.proofs.ReadsLaws.{reads_none, reads_more}
