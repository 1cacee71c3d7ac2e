-- What stands at a path, and what is found there, as the model has it.
use Rattle.syn_model.specs.Contents.{contents_with, AreLawfulContents}
use Rattle.syn_model.specs.Tree.{Directory, File}
use Rattle.syn_model.specs.Tree as model
use Rattle.syn_tree.specs.Modes.{mode_of}
use Rattle.syn_tree.specs.declared.content.Content.{Content}
use Rattle.syn_tree.specs.declared.content.Content.TheVariants as has
use Rattle.syn_tree.specs.declared.content.Found.{Found}
use Rattle.syn_tree.specs.declared.content.Found.TheVariants as found

abbrev pub content_of : Content → model.Content
content_of (has.File mode bytes) = File (contents_with (mode_of mode) bytes.items)
content_of has.Dir = Directory

abbrev pub found_content : Found → model.Content
found_content (found.File mode bytes) = File (contents_with (mode_of mode) bytes.now)
found_content found.Dir = Directory

-- its mode is one, and its bytes are bytes
abbrev pub IsLawful : model.Content → Type 0
IsLawful Directory = Unit {0}
IsLawful (File contents) = AreLawfulContents contents
