-- The first line of a capture: `NAVCAP 1`, or `NAVCAP 2`, week and window, separated by one space each, with
-- no space at either end.
use Rattle.std.specs.Prelude.{◌≡◌, ℕ, ◌≤◌, ◌==◌, ◌&&◌, nat_eq, nat_le, List, ◌++◌, length, take, drop, slice_index, codes, if◌then◌else◌, Option, Some, None}
use Rattle.std.specs.List.{prefix_len, starts_with}
use Rattle.std.specs.Char.{is_ascii_digit}
use Rattle.std.specs.Str.{bytes_eq}
use Rattle.nav_eph.specs.Weeks.{IsReference}
use Rattle.capture_lines.specs.Reading.{number_in}
use Rattle.capture_lines.specs.Spellings.{IsNumberText}
use Rattle.capture_lines.specs.declared.head.CaptureHead.{CaptureHead}

-- a window in seconds, 60 to 14,400
abbrev pub IsWindow : ℕ → Type 0
IsWindow window = (60 ≤ window) × (window ≤ 14400)

-- the first line without week and window
abbrev pub plain_head : List ℕ
plain_head = codes "NAVCAP 1"

-- the first line with week and window, each in one to ten decimal digits
pub record NamesWeek (week window : ℕ) (line : List ℕ) : Type 0 where
  pub week_text : List ℕ
  pub window_text : List ℕ
  pub line_is : line ≡ codes "NAVCAP 2 " ++ (week_text ++ (codes " " ++ window_text))
  pub week_is : IsNumberText week week_text
  pub window_is : IsNumberText window window_text
  pub week_range : IsReference week
  pub window_range : IsWindow window

-- the line has this window and this week; without a week the window is 7,200 seconds
abbrev pub Names : ℕ → Option ℕ → List ℕ → Type 0
Names window None line = (line ≡ plain_head) × (window ≡ 7200)
Names window (Some week) line = NamesWeek week window line

-- the line is a spelling of the head; spellings differ only in leading zeros
abbrev pub IsHead : CaptureHead → List ℕ → Type 0
IsHead head line = Names head.window head.week line

-- ---- the same as a function

-- the number of decimal digits at the start of the text
abbrev pub digit_count : List ℕ → ℕ
digit_count text = prefix_len is_ascii_digit text

-- the number of the complete text
unfoldable pub whole_number_in : List ℕ → Option ℕ
whole_number_in text = if digit_count text == length text then number_in text else None

-- the number after one space
unfoldable pub number_behind : List ℕ → Option ℕ
number_behind rest = if slice_index rest 0 == 32 then whole_number_in (drop 1 rest) else None

-- the head of a week and a window, if both are in range
unfoldable pub ranged : ℕ → ℕ → Option CaptureHead
ranged week window =
    if (nat_le 1024 week && nat_le week 8191) && (nat_le 60 window && nat_le window 14400)
    then Some (record { window = window; week = Some week }) else None

-- the head of the numbers read
abbrev pub head_with : Option ℕ → Option ℕ → Option CaptureHead
head_with (Some week) (Some window) = ranged week window
head_with (Some week) None = None
head_with None window = None

-- the head after `NAVCAP 2 `
unfoldable pub own_head : List ℕ → Option CaptureHead
own_head rest = head_with (number_in (take (digit_count rest) rest)) (number_behind (drop (digit_count rest) rest))

-- the head of the first line
unfoldable pub head_of : List ℕ → Option CaptureHead
head_of line =
    if bytes_eq line plain_head then Some (record { window = 7200; week = None })
    else if starts_with nat_eq line (codes "NAVCAP 2 ") then own_head (drop 9 line)
    else None
