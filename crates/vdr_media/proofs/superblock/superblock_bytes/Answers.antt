use Rattle.std.proofs.Common.{refl}
use Rattle.vdr_media.proofs.Spelling.{superblock_put}
use Rattle.vdr_media.proofs.superblock.superblock_bytes.Goals as goal

pub returns : goal.returns
returns c = superblock_put _ _ _ _ _ _ _ _ _ _ refl c.put.ensures c.put-2.ensures c.put_u64.ensures c.put_u32.ensures c.put_u32-2.ensures
