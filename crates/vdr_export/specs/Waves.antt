-- A WAVE file (RIFF) of one channel of linear PCM samples of 16 bits. Numbers are little-endian.
use Rattle.std.specs.Prelude.{ℕ, ◌+◌, ◌*◌, ◌≤◌, List, ◌++◌, codes}
use Rattle.vdr_bytes.specs.Numbers.{le_u16, le_u32}
use Rattle.vdr_export.specs.Sounds.{Heard, sound}
use Rattle.vdr_export.specs.declared.timing.Timing.{Timing}
use Rattle.vdr_export.specs.declared.wave.WaveSize.{WaveSize}

-- The most bytes of sound that a file has: its own size is a number of four bytes, and two bytes are a sample.
abbrev pub most_bytes : ℕ
most_bytes = 4_294_967_258

-- Samples a second, and bytes of sound.
pub record IsWaveSize (size : WaveSize) : Type 0 where
  pub rate : size.rate ≤ 192_000
  pub bytes : size.bytes ≤ most_bytes

-- The form: linear PCM, one channel, the rate, bytes a second, bytes of a sample of all channels, bits of a sample.
unfoldable pub format_chunk : (rate : ℕ) → List ℕ
format_chunk rate = codes "fmt " ++ le_u32 16 ++ le_u16 1 ++ le_u16 1 ++ le_u32 rate ++ le_u32 (2 * rate) ++ le_u16 2 ++ le_u16 16

-- What stands before the samples.
unfoldable pub wave_header : WaveSize → List ℕ
wave_header size = codes "RIFF" ++ le_u32 (36 + size.bytes) ++ codes "WAVE" ++ format_chunk size.rate ++ codes "data" ++ le_u32 size.bytes

abbrev pub wave_file : WaveSize → Timing → List Heard → List ℕ
wave_file size timing hs = wave_header size ++ sound timing hs
