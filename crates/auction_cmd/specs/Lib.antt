pub mod BatchPromises
pub mod DiaryPromises
pub mod Program
pub mod ResumePromises
