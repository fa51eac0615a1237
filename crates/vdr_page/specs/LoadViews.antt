-- What contracts see of a payload that was read.
use Rattle.vdr_image.specs.Views.{header_of}
use Rattle.vdr_pcm.specs.Views.{frame_of}
use Rattle.vdr_page.specs.Rows.{Load}
use Rattle.vdr_page.specs.Rows.Load.{Part as APart, Sound as ASound, Raw as ARaw}
use Rattle.vdr_page.specs.declared.load.Load.{Load as Seen}
use Rattle.vdr_page.specs.declared.load.Load.TheVariants.{Part, Sound, Raw}

abbrev pub load_seen : Seen → Load
load_seen (Part header) = APart (header_of header)
load_seen (Sound frame) = ASound (frame_of frame)
load_seen (Raw payload) = ARaw payload.now
