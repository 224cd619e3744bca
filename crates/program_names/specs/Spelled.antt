-- The names that a program spells: those of its declaring identifiers and of its references, in preorder.
use Rattle.std.specs.Prelude.{List, [], ◌∷◌, ◌++◌}
use Rattle.es_base.specs.Preorder.{preorder}
use Rattle.es_base.specs.Tree.{Tree, Node}
use Rattle.es_base.specs.declared.kind.Kind.{Kind}
use Rattle.es_names.specs.Taken.{Strings}
use Rattle.es_steps.specs.Parts.{at, string_of}

abbrev pub own_spelling : Tree → Strings
own_spelling (Node Kind.BindingIdentifier m span id ps) = string_of (at 0 ps) ∷ []
own_spelling (Node Kind.IdentifierReference m span id ps) = string_of (at 0 ps) ∷ []
own_spelling t = []

abbrev pub spellings_of : List Tree → Strings
spellings_of [] = []
spellings_of (t ∷ ts) = own_spelling t ++ spellings_of ts

abbrev pub spelled : Tree → Strings
spelled program = spellings_of (preorder program)
