-- The states after the box's customization strings: antt works them out.
use Rattle.std.proofs.Common.{◌≡◌, codes, refl}
use Rattle.ascon.specs.Permutation.{p12, rounds, round, spread, rotated}
use Rattle.ascon.specs.Blocks.{word, blocks, padded}
use Rattle.ascon.specs.Hash.{add_word, absorbed_words, words, initial, customized}

pub after_mark_string : customized (codes "box mark") ≡ record { x0 = 0xde8e4dddb1dd3aa8; x1 = 0xf20fb5126602f3d5; x2 = 0x8058dceb3bcdc6b8; x3 = 0x36ec904e0872b8be; x4 = 0x33063abd876d3ddb }
unfolding p12 rounds round spread rotated word blocks padded add_word absorbed_words words initial customized
after_mark_string = refl

pub after_key_string : customized (codes "box key") ≡ record { x0 = 0xdd0706d7e908c5f3; x1 = 0x5bbac448491d8483; x2 = 0x9d75d5901c917c3e; x3 = 0xc118cf7c01da5374; x4 = 0x564f0461e6e98b46 }
unfolding p12 rounds round spread rotated word blocks padded add_word absorbed_words words initial customized
after_key_string = refl
