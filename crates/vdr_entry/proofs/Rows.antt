-- Worked examples, computed.
use Rattle.std.proofs.Common.{◌≡◌, refl, ℕ, pos, [], ◌∷◌, ◌++◌}
use Rattle.std.specs.Prelude.{codes}
use Rattle.std.specs.Fmt.{digits}
use Rattle.vdr_bytes.specs.Numbers.{le_u16, le_u64}
use Rattle.vdr_terms.specs.Records.{Record, Content}
use Rattle.vdr_terms.specs.Records.Content.{Start, Datagram, Gap, Stop}
use Rattle.vdr_entry.specs.Lines.{record_line}
use Rattle.vdr_entry.specs.Spelling.{record_bytes, head, numbers}
use Rattle.vdr_entry.specs.Utc.{utc_text, date_text, time_text, year_after, month_after}

-- UTC stamps

utc_first : utc_text (pos 0) ≡ codes "1970-01-01T00:00:00.000Z"
unfolding utc_text date_text time_text year_after month_after
utc_first = refl

utc_end_of_leap_day : utc_text (pos 1_709_251_199_999) ≡ codes "2024-02-29T23:59:59.999Z"
unfolding utc_text date_text time_text year_after month_after
utc_end_of_leap_day = refl

utc_after_leap_day : utc_text (pos 1_709_251_200_000) ≡ codes "2024-03-01T00:00:00.000Z"
unfolding utc_text date_text time_text year_after month_after
utc_after_leap_day = refl

-- 2000 is a leap year, and 2100 is none.
utc_leap_century : utc_text (pos 951_827_696_007) ≡ codes "2000-02-29T12:34:56.007Z"
unfolding utc_text date_text time_text year_after month_after
utc_leap_century = refl

utc_other_century : utc_text (pos 4_107_542_399_999) ≡ codes "2100-02-28T23:59:59.999Z"
unfolding utc_text date_text time_text year_after month_after
utc_other_century = refl

utc_after_other_century : utc_text (pos 4_107_542_400_000) ≡ codes "2100-03-01T00:00:00.000Z"
unfolding utc_text date_text time_text year_after month_after
utc_after_other_century = refl

utc_last : utc_text (pos 253_402_300_799_999) ≡ codes "9999-12-31T23:59:59.999Z"
unfolding utc_text date_text time_text year_after month_after
utc_last = refl

-- Lines

-- A record of group 3, whose tick and channel bits are in no line.
abbrev pub navd : Content → (place number utc : ℕ) → Record
navd content place number utc = record { content = content; group = 3; bits = 1; place = place; number = number; tick = 1000; utc = pos utc }

-- A record of no group.
abbrev bare : Content → (place utc : ℕ) → Record
bare content place utc = record { content = content; group = 255; bits = 1; place = place; number = 0; tick = 1000; utc = pos utc }

line_of_sentence : record_line (navd (Datagram (codes "UdPbC" ++ 0 ∷ codes "\\s:GP0001,n:7*10\\$GPHDT,123.456,T*32\r\n")) 1 0 1_704_067_200_000)
    ≡ codes "1 NAVD 0 2024-01-01T00:00:00.000Z data 44 UdPbC<00>\\s:GP0001,n:7*10\\$GPHDT,123.456,T*32<0d><0a>\n"
unfolding digits record_line utc_text date_text time_text year_after month_after
line_of_sentence = refl

-- `<`, the characters around the printable ones, a space, and bytes that are no ASCII.
line_of_escapes : record_line (navd (Datagram (codes "AbCdE" ++ 0 ∷ 60 ∷ 31 ∷ 32 ∷ 126 ∷ 127 ∷ 171 ∷ 255 ∷ [])) 12 345 0)
    ≡ codes "12 NAVD 345 1970-01-01T00:00:00.000Z data 13 AbCdE<00><3c><1f> ~<7f><ab><ff>\n"
unfolding digits record_line utc_text date_text time_text year_after month_after
line_of_escapes = refl

line_of_gap : record_line (navd (Gap (record { full = 10; rate = 1; bad = 0; large = 7 })) 3 2 1000) ≡ codes "3 NAVD 2 1970-01-01T00:00:01.000Z gap 10 1 0 7\n"
unfolding digits record_line utc_text date_text time_text year_after month_after
line_of_gap = refl

line_of_start : record_line (bare Start 6 60_000) ≡ codes "6 - - 1970-01-01T00:01:00.000Z start\n"
unfolding digits record_line utc_text date_text time_text year_after month_after
line_of_start = refl

line_of_stop : record_line (bare Stop 5 60_000) ≡ codes "5 - - 1970-01-01T00:01:00.000Z stop\n"
unfolding digits record_line utc_text date_text time_text year_after month_after
line_of_stop = refl

-- Bytes on the media

bytes_of_datagram : record_bytes (record { content = Datagram (codes "AbCdE" ++ 0 ∷ []); group = 3; bits = 1; place = 513; number = 2; tick = 1000; utc = pos 1_704_067_200_000 })
    ≡ 1 ∷ 3 ∷ 6 ∷ 0
    ∷ 1 ∷ 0 ∷ 0 ∷ 0 ∷ 0 ∷ 0 ∷ 0 ∷ 0
    ∷ 1 ∷ 2 ∷ 0 ∷ 0 ∷ 0 ∷ 0 ∷ 0 ∷ 0
    ∷ 2 ∷ 0 ∷ 0 ∷ 0 ∷ 0 ∷ 0 ∷ 0 ∷ 0
    ∷ 0xE8 ∷ 0x03 ∷ 0 ∷ 0 ∷ 0 ∷ 0 ∷ 0 ∷ 0
    ∷ 0x00 ∷ 0xF4 ∷ 0x51 ∷ 0xC2 ∷ 0x8C ∷ 0x01 ∷ 0 ∷ 0
    ∷ 0x41 ∷ 0x62 ∷ 0x43 ∷ 0x64 ∷ 0x45 ∷ 0 ∷ []
unfolding record_bytes head numbers le_u16 le_u64
bytes_of_datagram = refl

bytes_of_gap : record_bytes (record { content = Gap (record { full = 0; rate = 1; bad = 0; large = 258 }); group = 3; bits = 0; place = 4; number = 2; tick = 0; utc = pos 0 })
    ≡ 2 ∷ 3 ∷ 40 ∷ 0
    ∷ 0 ∷ 0 ∷ 0 ∷ 0 ∷ 0 ∷ 0 ∷ 0 ∷ 0
    ∷ 4 ∷ 0 ∷ 0 ∷ 0 ∷ 0 ∷ 0 ∷ 0 ∷ 0
    ∷ 2 ∷ 0 ∷ 0 ∷ 0 ∷ 0 ∷ 0 ∷ 0 ∷ 0
    ∷ 0 ∷ 0 ∷ 0 ∷ 0 ∷ 0 ∷ 0 ∷ 0 ∷ 0
    ∷ 0 ∷ 0 ∷ 0 ∷ 0 ∷ 0 ∷ 0 ∷ 0 ∷ 0
    ∷ 2 ∷ 0 ∷ 0 ∷ 0 ∷ 0 ∷ 0 ∷ 0 ∷ 0
    ∷ 0 ∷ 0 ∷ 0 ∷ 0 ∷ 0 ∷ 0 ∷ 0 ∷ 0
    ∷ 1 ∷ 0 ∷ 0 ∷ 0 ∷ 0 ∷ 0 ∷ 0 ∷ 0
    ∷ 0 ∷ 0 ∷ 0 ∷ 0 ∷ 0 ∷ 0 ∷ 0 ∷ 0
    ∷ 2 ∷ 1 ∷ 0 ∷ 0 ∷ 0 ∷ 0 ∷ 0 ∷ 0 ∷ []
unfolding record_bytes head numbers le_u16 le_u64
bytes_of_gap = refl
