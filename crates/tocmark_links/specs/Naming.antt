-- What is at a path of a tree, before a move and after it, and what a path names.
use Rattle.std.specs.Prelude.{ℕ, ◌==◌, Bool, List, ◌++◌, length, Option, None, Some, codes, string_bytes, if◌then◌else◌}
use Rattle.std.specs.Borrow.{Bor}
use Rattle.std.specs.HashMap.{get_by_text}
use Rattle.std.specs.Option.{is_some, option_and_then, option_map_or, option_or}
use Rattle.tocmark_links.specs.Paths.{before, below, folder_before, followed}
use Rattle.tocmark_links.specs.declared.moves.Moves.{Moves}
use Rattle.tocmark_links.specs.declared.tree.Entry.{Entry}
use Rattle.tocmark_links.specs.declared.tree.Entry.TheVariants.{Folder as FolderEntry, File as FileEntry, Page as PageEntry}
use Rattle.tocmark_links.specs.declared.tree.Kind.{Kind}
use Rattle.tocmark_links.specs.declared.tree.Kind.TheVariants.{Nothing, Folder, File, Page}
use Rattle.tocmark_links.specs.declared.tree.Tree.{Tree}

-- ---- what is at a path

abbrev pub kind_of : Entry → Kind
kind_of FolderEntry = Folder
kind_of FileEntry = File
kind_of (PageEntry anchors) = Page

-- the root is a folder
abbrev pub kind_at : Tree → List ℕ → Kind
kind_at tree path = if length path == 0 then Folder else option_map_or kind_of (get_by_text tree.entries path) Nothing

-- where a path is after a move
abbrev pub placed : Moves → List ℕ → List ℕ
placed moves path = option_map_or (λ rest. string_bytes moves.new ++ rest) (below (string_bytes moves.old) path) path

-- what is after a move at a path that isn't in the new one: a folder if the new path is in it, and nothing where the old one was
abbrev pub kind_beside : (List ℕ → Kind) → Moves → List ℕ → Kind
kind_beside kinds moves path =
    if is_some (below path (string_bytes moves.new)) then Folder
    else (if is_some (below (string_bytes moves.old) path) then Nothing else kinds path)

-- what is at a path after a move: in the new path is what was in the old one
abbrev pub kind_after : (List ℕ → Kind) → Moves → List ℕ → Kind
kind_after kinds moves path =
    option_map_or (λ rest. kinds (string_bytes moves.old ++ rest)) (below (string_bytes moves.new) path) (kind_beside kinds moves path)

-- what is at a path in a tree, or in the tree after a move
abbrev pub kind_in : Tree → Option (Bor Moves) → List ℕ → Kind
kind_in tree None = kind_at tree
kind_in tree (Some moves) = kind_after (kind_at tree) moves.now

-- ---- what a path names

-- a page at a path
abbrev pub page_of : Kind → List ℕ → Option (List ℕ)
page_of Page path = Some path
page_of Nothing path = None
page_of Folder path = None
page_of File path = None

abbrev pub page_at : (List ℕ → Kind) → List ℕ → Option (List ℕ)
page_at kinds path = page_of (kinds path) path

-- the page of a folder
abbrev pub folder_page : (List ℕ → Kind) → List ℕ → Option (List ℕ)
folder_page kinds folder =
    option_or (page_at kinds (followed folder (codes "index.md"))) (page_at kinds (followed folder (codes "README.md")))

-- the page that a site makes `x/index.html` of, by `x`
abbrev pub index_page : (List ℕ → Kind) → List ℕ → Option (List ℕ)
index_page kinds stem = option_or (page_at kinds (stem ++ codes ".md")) (folder_page kinds stem)

-- the page that mdBook calls `x/index.md`, by `x`
abbrev pub readme_page : (List ℕ → Kind) → List ℕ → Option (List ℕ)
readme_page kinds folder = page_at kinds (followed folder (codes "README.md"))

-- the page that a site makes `x.html` of, by `x`
abbrev pub html_page : (List ℕ → Kind) → List ℕ → Option (List ℕ)
html_page kinds stem = page_at kinds (stem ++ codes ".md")

-- the page that mdBook makes this path of, if the tree is a book
abbrev pub book_page : Bool → (List ℕ → Kind) → List ℕ → Option (List ℕ)
book_page is_book kinds path =
    if is_book then option_and_then (readme_page kinds) (folder_before path (codes "index.md")) else None

-- the page that a site makes this path of
abbrev pub site_page : Bool → (List ℕ → Kind) → List ℕ → Option (List ℕ)
site_page is_book kinds path =
    option_or (option_and_then (index_page kinds) (folder_before path (codes "index.html")))
    (option_or (option_and_then (html_page kinds) (before path (codes ".html"))) (book_page is_book kinds path))

-- what a path names, by what is at it: the file, the page that a site makes this path of, the page of the folder, the folder,
-- or the page `x.md` by `x`
abbrev pub named_by : Bool → (List ℕ → Kind) → List ℕ → Kind → Option (List ℕ)
named_by is_book kinds path File = Some path
named_by is_book kinds path Page = Some path
named_by is_book kinds path Folder = option_or (site_page is_book kinds path) (option_or (folder_page kinds path) (Some path))
named_by is_book kinds path Nothing = option_or (site_page is_book kinds path) (page_at kinds (path ++ codes ".md"))

abbrev pub named : Bool → (List ℕ → Kind) → List ℕ → Option (List ℕ)
named is_book kinds path = named_by is_book kinds path (kinds path)
