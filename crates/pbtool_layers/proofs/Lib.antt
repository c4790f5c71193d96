-- for `folders::with_built_in`: words that are put into others
pub mod FolderWords
