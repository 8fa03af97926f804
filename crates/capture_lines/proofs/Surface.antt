-- What proofs of other crates cite: the decimal digits of a number, and that they are its text.
pub use Rattle.capture_lines.proofs.Decimals.{last_digit, one_digit}
pub use Rattle.capture_lines.proofs.NumberTexts.{decimal_is_text}
