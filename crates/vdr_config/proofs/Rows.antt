-- Worked examples, computed.
use Rattle.std.proofs.Common.{◌≡◌, [], ◌∷◌, Some, None, Ok, Err, refl, replicate, false}
use Rattle.std.specs.Prelude.{codes}
use Rattle.std.specs.Str.{is_utf8, chars}
use Rattle.serde_json.proofs.OnLiterals.{serde_json_on_literals}
use Rattle.vdr_terms.specs.Needs.{needed_slots}
use Rattle.vdr_config.specs.declared.bad.ConfigBad.TheVariants as bad
use Rattle.vdr_config.specs.declared.profile.Profile.TheVariants.{Ship, Bench}
use Rattle.vdr_config.specs.Configuration.{Configuration}
use Rattle.vdr_config.specs.Configuration.Selection.{Sentence, Image}
use Rattle.vdr_config.specs.Sizes.{sizes_of, fitting}
use Rattle.vdr_config.specs.Forms.{is_key}
use Rattle.vdr_config.specs.Grammar.{needed_key, optional_key, only_keys, each_element, group_at, selection_at, channel_at, top_of, agreement, configuration_of, configuration}

no_object : configuration (codes "[]") ≡ Err bad.Json
unfolding serde_json_on_literals is_utf8 chars configuration configuration_of
no_object = refl

no_key : configuration (codes "{}") ≡ Err (bad.MissingKey (codes "profile"))
unfolding serde_json_on_literals is_utf8 chars configuration configuration_of only_keys top_of needed_key is_key
no_key = refl

unknown_key : configuration (codes "{\"b\":1,\"a\":2}") ≡ Err (bad.UnknownKey (codes "a"))
unfolding serde_json_on_literals is_utf8 chars configuration configuration_of only_keys top_of needed_key is_key
unknown_key = refl

abbrev bench : Configuration
bench = record {
  profile = Bench;
  capsule_seconds = 60;
  long_seconds = 600;
  float_seconds = 60;
  float_given = false;
  incident_seconds = 30;
  incident_slots = 2;
  segment = 8192;
  batch = 2048;
  queue = 16;
  groups = None ∷ None ∷ None ∷ Some (record { datagrams = 2; bytes = 200 }) ∷ replicate 12 None;
  channels = record { name = codes "heading"; group = 3; kind = Sentence (Some (codes "HDT")) None } ∷ [];
}

bench_text : configuration (codes "{\"profile\":\"bench\",\"capsule_seconds\":60,\"long_seconds\":600,\"incident_seconds\":30,\"incident_slots\":2,\"segment\":8192,\"batch\":2048,\"queue\":16,\"groups\":[{\"name\":\"NAVD\",\"datagrams\":2,\"bytes\":200}],\"channels\":[{\"name\":\"heading\",\"group\":\"NAVD\",\"kind\":\"sentence\",\"formatter\":\"HDT\"}]}") ≡ Ok bench
unfolding serde_json_on_literals is_utf8 chars configuration configuration_of only_keys top_of needed_key optional_key each_element group_at channel_at selection_at agreement is_key
bench_text = refl

abbrev ship : Configuration
ship = record {
  profile = Ship;
  capsule_seconds = 172800;
  long_seconds = 2592000;
  float_seconds = 172800;
  float_given = false;
  incident_seconds = 43200;
  incident_slots = 4;
  segment = 1048576;
  batch = 65536;
  queue = 256;
  groups = None ∷ Some (record { datagrams = 2; bytes = 200 }) ∷ None ∷ Some (record { datagrams = 20; bytes = 2000 }) ∷ Some (record { datagrams = 5; bytes = 5000 }) ∷ replicate 11 None;
  channels = record { name = codes "heading"; group = 3; kind = Sentence (Some (codes "HDT")) None } ∷ record { name = codes "radar"; group = 4; kind = Image None } ∷ [];
}

ship_text : configuration (codes "{\"profile\":\"ship\",\"capsule_seconds\":172800,\"long_seconds\":2592000,\"incident_seconds\":43200,\"incident_slots\":4,\"segment\":1048576,\"batch\":65536,\"queue\":256,\"groups\":[{\"name\":\"NAVD\",\"datagrams\":20,\"bytes\":2000},{\"name\":\"VDRD\",\"datagrams\":5,\"bytes\":5000},{\"name\":\"TGTD\",\"datagrams\":2,\"bytes\":200}],\"channels\":[{\"name\":\"heading\",\"group\":\"NAVD\",\"kind\":\"sentence\",\"formatter\":\"HDT\"},{\"name\":\"radar\",\"group\":\"VDRD\",\"kind\":\"image\"}]}") ≡ Ok ship
unfolding serde_json_on_literals is_utf8 chars configuration configuration_of only_keys top_of needed_key optional_key each_element group_at channel_at selection_at agreement is_key
ship_text = refl

bench_fits : fitting (sizes_of bench) (122880 ∷ 712704 ∷ []) ≡ Ok tt
bench_fits = refl

bench_is_too_small : fitting (sizes_of bench) (114688 ∷ 712704 ∷ []) ≡ Err (record { medium = 0; need = 11; have = 10 })
bench_is_too_small = refl

ship_needs : needed_slots (sizes_of ship) 1 ≡ 32014
ship_needs = refl
