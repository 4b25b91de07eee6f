-- What a clause reads of a block and of its allocator.
use Rattle.std.specs.Prelude.{ℕ}
use Rattle.one_block.specs.declared.block.MemoryBlock.{MemoryBlock}
use Rattle.one_block.specs.declared.OneBlock.{OneBlock}

-- the size of a block in bytes (own)
abbrev pub block_bytes : MemoryBlock → ℕ
block_bytes b = b.size

-- the size in bytes of the block that an allocator was made with (own)
abbrev pub bytes_managed : OneBlock → ℕ
bytes_managed a = a.size
